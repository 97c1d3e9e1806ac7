-- How planning ends, check by check.
-- Assumes nothing.
use Rattle.std.specs.Prelude.{Err}
use Prim.Native.Nat.{ℕ, ◌+◌, ◌*◌, ◌≤◌, ◌<◌}
use mathlib.Core.List.{List}
use mathlib.Core.Logic.{◌↔◌, ◌≢◌}
use mathlib.Core.Path.{◌≡◌, refl, ◌∙◌}
use native.Mathlib.Omega.{arith}
use lib.Dec.{ltb}
use borrow.Author.Tests.{lt-ltb, le-ltb, ltb-true, ltb-false}
use Rattle.refusal.specs.declared.Reason.{Reason}
use Rattle.refusal.specs.declared.Reason.TheVariants.{Buffer, Table}
use Rattle.refusal.specs.Reasons.{reason_number}
use Rattle.refusal.specs.Answers.{refusal_number, Accepted}
use Rattle.queue.specs.declared.Queue.{Queue}
use Rattle.queue.specs.Reading.{read_queue}
use Rattle.plan.specs.Writing.{message}
use Rattle.sequencing.specs.Recursion.{plan_cost}
use Rattle.sequencing.specs.Entries.{entries}
use Rattle.problem.specs.OfQueue.{problem}
use Rattle.best_order.specs.Endings.{refused, room_verdict, best_plan, solved, ending_of, ending}
use Rattle.best_order.proofs.Calls.{ByCost}
use Rattle.best_order.proofs.Checks.{two_refusals, two_not, two_accepted, check_refused, check_accepted}

-- ---- 15 and 16

module _ (needed n room : ℕ) where
  pub no_buffer : room < 77 → room_verdict needed n room ≡ Err Buffer
  unfolding room_verdict
  no_buffer h = rw (lt-ltb room 77 h)

  pub no_table : 77 ≤ room → n < needed → room_verdict needed n room ≡ Err (Table needed)
  unfolding room_verdict
  no_table h l = rw (le-ltb room 77 h, lt-ltb n needed l)

  pub in_room : 77 ≤ room → needed ≤ n → room_verdict needed n room ≡ Accepted
  unfolding room_verdict
  in_room h l = rw (le-ltb room 77 h, le-ltb n needed l)

  -- what is refused is one of the two, under its condition
  pub room_refusals : (S : Reason → Type 0) → (room < 77 → S Buffer) → (77 ≤ room → n < needed → S (Table needed))
      → (r : Reason) → room_verdict needed n room ≡ Err r → S r
  unfolding room_verdict
  room_refusals S buffer table = two_refusals Buffer (Table needed) (ltb room 77) (ltb n needed) S
      (λ e. buffer (ltb-true room 77 e)) (λ e f. table (ltb-false room 77 e) (ltb-true n needed f))

  pub room_not : (r : Reason) → reason_number r ≢ 15 → reason_number r ≢ 16 → room_verdict needed n room ≡ Err r → ⊥
  unfolding room_verdict
  room_not = two_not Buffer (Table needed) (ltb room 77) (ltb n needed)

  -- what is accepted is enough
  pub room_enough : room_verdict needed n room ≡ Accepted → (77 ≤ room) × (needed ≤ n)
  unfolding room_verdict
  room_enough a = let (e, f) = two_accepted Buffer (Table needed) (ltb room 77) (ltb n needed) a in (ltb-false room 77 e, ltb-false n needed f)

  -- each verdict exactly under its condition
  pub buffer_verdict : (room_verdict needed n room ≡ Err Buffer) ↔ (room < 77)
  buffer_verdict = ((λ a. room_refusals (λ r. reason_number r ≡ 15 → room < 77) (λ l _. l) (λ _ _ e. absurd (omega arith)) Buffer a refl), no_buffer)

  pub table_verdict : (m : ℕ) → (room_verdict needed n room ≡ Err (Table m)) ↔ ((77 ≤ room) × (n < needed) × (m ≡ needed))
  table_verdict m = (
    (λ a. room_refusals (λ r. refusal_number r ≡ 16 + 256 * m → (77 ≤ room) × (n < needed) × (m ≡ needed)) (λ _ e. absurd (omega arith))
        (λ l k e. (l, k, omega (arith, e))) (Table m) a refl),
    (λ h. rw h.2 (no_table h.0 h.1)),
  )

  pub room_verdict_lem : (room_verdict needed n room ≡ Accepted) ↔ ((77 ≤ room) × (needed ≤ n))
  room_verdict_lem = (room_enough, (λ h. in_room h.0 h.1))

module _ (q : Queue) (n room : ℕ) where
  pub room_refused : (r : Reason) → room_verdict (entries (problem q)) n room ≡ Err r → ending_of q n room ≡ refused r
  unfolding ending_of
  room_refused r h = check_refused (solved q (plan_cost (problem q))) h

  pub room_accepted : room_verdict (entries (problem q)) n room ≡ Accepted → ending_of q n room ≡ solved q (plan_cost (problem q))
  unfolding ending_of
  room_accepted h = check_accepted (solved q (plan_cost (problem q))) h

pub solved_by_cost : (q : Queue) → ByCost q (solved q)
solved_by_cost q = record { on_none = refl; on_some = λ c. (message (best_plan q c), refl) }

-- ---- the message

module _ (s : List ℕ) (n room : ℕ) where
  abbrev q : Queue
  q = (read_queue s).queue

  pub message_refused : (r : Reason) → (read_queue s).verdict ≡ Err r → ending (read_queue s) n room ≡ refused r
  unfolding ending
  message_refused r h = check_refused (ending_of q n room) h

  pub message_accepted : (read_queue s).verdict ≡ Accepted → ending (read_queue s) n room ≡ ending_of q n room
  unfolding ending
  message_accepted h = check_accepted (ending_of q n room) h

  -- an accepted message with room for its plan and its table is planned by the recursion
  pub reached : (read_queue s).verdict ≡ Accepted → 77 ≤ room → entries (problem q) ≤ n → ending (read_queue s) n room ≡ solved q (plan_cost (problem q))
  reached h l m = message_accepted h ∙ room_accepted q n room (in_room _ n room l m)
