-- Each of planning's refusals is given exactly under its condition.
-- Assumes nothing.
use Rattle.refusal.specs.Answers.{Answer, Accepted}
use Rattle.std.specs.Prelude.{Err}
use Prim.Native.Nat.{ℕ, ◌≤◌, ◌<◌}
use mathlib.Core.List.{List}
use mathlib.Core.Logic.{◌↔◌, ◌≢◌}
use mathlib.Core.Path.{◌≡◌, refl}
use native.Mathlib.Omega.{arith}
use Rattle.refusal.specs.declared.Reason.{Reason}
use Rattle.refusal.specs.declared.Reason.TheVariants.{Buffer, Table, NoOrder}
use Rattle.refusal.specs.Reasons.{reason_number}
use Rattle.refusal.proofs.Reasons.{OfMessage}
use Rattle.queue.specs.declared.Queue.{Queue}
use Rattle.queue.specs.Reading.{read_queue}
use Rattle.queue.specs.Refusals.{QueueRefusal}
use Rattle.queue_laws.proofs.Theorems.{accepted_valid, queue_refusal, queue_of_message}
use Rattle.sequencing.specs.Orders.{IsOrder, Permitted}
use Rattle.sequencing.specs.Recursion.{plan_cost}
use Rattle.sequencing.specs.Entries.{entries}
use Rattle.problem.specs.OfQueue.{problem}
use Rattle.problem.proofs.Queues.{none_permitted}
use Rattle.best_order.specs.Endings.{Ending, if_accepted, room_verdict, solved, ending_of, ending, answer_of, filled_for, table_of}
use Rattle.best_order.proofs.Calls.{only_17, cost_fills, cost_none}
use Rattle.best_order.proofs.Checks.{refused_here, refused_later, never_refused, through, then, then_three, then_both}
use Rattle.best_order.proofs.Endings.{room_not, buffer_verdict, table_verdict, room_verdict_lem, solved_by_cost}

-- ---- the message, and what follows it

module _ (s : List ℕ) (e : Ending) where
  -- a refusal of what is lent or asked comes after an accepted message
  pub after_message : (r : Reason) → (OfMessage r → ⊥)
      → (answer_of (if_accepted (read_queue s).verdict e) ≡ Err r) ↔ (((read_queue s).verdict ≡ Accepted) × (answer_of e ≡ Err r))
  after_message r other = refused_later (read_queue s).verdict e r (λ h. other (queue_of_message r (queue_refusal s r h)))

-- ---- what is lent, then 17 or a plan

module _ (needed n room : ℕ) {q : Queue} (last : Ending) (fills : table_of last ≡ filled_for q) where
  abbrev lent : Ending
  lent = if_accepted (room_verdict needed n room) last

  pub lent_not : (r : Reason) → reason_number r ≢ 15 → reason_number r ≢ 16 → reason_number r ≢ 17 → answer_of lent ≡ Err r → ⊥
  lent_not r x y z = never_refused (room_verdict needed n room) last r (room_not needed n room r x y) (λ a. z (only_17 last fills r a))

  pub lent_buffer : (answer_of lent ≡ Err Buffer) ↔ (room < 77)
  lent_buffer = through (refused_here (room_verdict needed n room) last Buffer (λ a. omega (arith, only_17 last fills Buffer a))) (buffer_verdict needed n room)

  pub lent_table : (m : ℕ) → (answer_of lent ≡ Err (Table m)) ↔ ((77 ≤ room) × (n < needed) × (m ≡ needed))
  lent_table m =
      through (refused_here (room_verdict needed n room) last (Table m) (λ a. omega (arith, only_17 last fills (Table m) a))) (table_verdict needed n room m)

  pub lent_none : {F : Type 0} → (answer_of last ≡ Err NoOrder) ↔ F → (answer_of lent ≡ Err NoOrder) ↔ ((77 ≤ room) × (needed ≤ n) × F)
  lent_none = then_both (refused_later (room_verdict needed n room) last NoOrder (room_not needed n room NoOrder (omega arith) (omega arith)))
      (room_verdict_lem needed n room)

-- ---- planning

module _ (s : List ℕ) (n room : ℕ) where
  abbrev q : Queue
  q = (read_queue s).queue

  abbrev last : Ending
  last = solved q (plan_cost (problem q))

  abbrev answer : Answer
  answer = answer_of (ending (read_queue s) n room)

  abbrev fills : table_of last ≡ filled_for q
  fills = cost_fills (solved_by_cost q) (plan_cost (problem q))

  -- 1 to 14: the message's own refusal, and no other message is refused so
  pub message_exactly : (r : Reason) → QueueRefusal r → (answer ≡ Err r) ↔ ((read_queue s).verdict ≡ Err r)
  unfolding ending ending_of
  message_exactly r own =
      let m = queue_of_message r own in
      refused_here (read_queue s).verdict (ending_of q n room) r
      (lent_not (entries (problem q)) n room last fills r m.not_buffer m.not_table m.not_order)

  -- 15
  pub buffer_exactly : (answer ≡ Err Buffer) ↔ (((read_queue s).verdict ≡ Accepted) × (room < 77))
  unfolding ending ending_of
  buffer_exactly = then (after_message s (ending_of q n room) Buffer (λ own. own.not_buffer refl)) (λ _. lent_buffer (entries (problem q)) n room last fills)

  -- 16, with N × P
  pub table_exactly : (needed : ℕ)
      → (answer ≡ Err (Table needed)) ↔ (((read_queue s).verdict ≡ Accepted) × (77 ≤ room) × (n < entries (problem q)) × (needed ≡ entries (problem q)))
  unfolding ending ending_of
  table_exactly needed = then_three (after_message s (ending_of q n room) (Table needed) (λ own. own.not_table refl))
      (λ _. lent_table (entries (problem q)) n room last fills needed)

  -- 17
  pub order_exactly : (answer ≡ Err NoOrder)
      ↔ (((read_queue s).verdict ≡ Accepted) × (77 ≤ room) × (entries (problem q) ≤ n) × ((o : List ℕ) → IsOrder (problem q) o → Permitted (problem q) o → ⊥))
  unfolding ending ending_of
  order_exactly = then_three (after_message s (ending_of q n room) NoOrder (λ own. own.not_order refl))
      (λ h. lent_none (entries (problem q)) n room last fills (through (cost_none (solved_by_cost q) (plan_cost (problem q))) (none_permitted q (accepted_valid s h))))
