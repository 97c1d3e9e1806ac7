-- How splitting ends, check by check.
-- Assumes nothing.
use Rattle.refusal.specs.Answers.{Accepted}
use Rattle.std.specs.Prelude.{Ok, Err}
use Prim.Native.Nat.{ℕ, ◌≤◌, ◌<◌}
use mathlib.Core.Bool.{true, false, not}
use mathlib.Core.List.{List}
use mathlib.Core.Logic.{◌↔◌, ◌≢◌}
use mathlib.Core.Path.{◌≡◌, refl, ◌∙◌}
use native.Mathlib.Omega.{arith}
use lib.Dec.{T as Is, ltb}
use borrow.Author.Tests.{lt-ltb, le-ltb, ltb-true, ltb-false, not-true, not-false}
use Rattle.refusal.specs.declared.Reason.{Reason}
use Rattle.refusal.specs.declared.Reason.TheVariants.{Uncovered, SecondStart}
use Rattle.refusal.specs.Reasons.{reason_number}
use Rattle.queue.specs.declared.Queue.{Queue}
use Rattle.queue.specs.Reading.{read_queue}
use Rattle.split_plan.specs.Writing.{message}
use Rattle.sequencing.specs.Entries.{entries}
use Rattle.problem.specs.OfQueue.{problem}
use Rattle.problem.proofs.Tests.{same_test}
use Rattle.splitting.specs.Taken.{taken_cost}
use Rattle.splitting.specs.Covers.{covers}
use Rattle.best_order.specs.Endings.{refused}
use Rattle.best_order.proofs.Calls.{ByCost}
use Rattle.best_order.proofs.Checks.{two_refusals, two_not, two_accepted, check_refused, check_accepted}
use Rattle.best_order.proofs.Endings.{in_room}
use Rattle.best_split.specs.Endings.{bench_verdict, best_split, divided, divided_in, split_ending_of, split_ending}

-- ---- 19 and 20

module _ (q : Queue) (s : ℕ) where
  is_covered : Is (covers q) → covers q ≡ true
  is_covered c = same_test (covers q) true (λ _. tt) (λ _. c)

  pub bench_uncovered : covers q ≡ false → bench_verdict q s ≡ Err Uncovered
  unfolding bench_verdict
  bench_uncovered h = rw h

  pub bench_second : Is (covers q) → q.kinds < s → bench_verdict q s ≡ Err SecondStart
  unfolding bench_verdict
  bench_second c h = rw (is_covered c, lt-ltb q.kinds s h)

  pub bench_accepted : Is (covers q) → s ≤ q.kinds → bench_verdict q s ≡ Accepted
  unfolding bench_verdict
  bench_accepted c h = rw (is_covered c, le-ltb q.kinds s h)

  -- what is refused is one of the two, under its condition
  pub bench_refusals : (S : Reason → Type 0) → (covers q ≡ false → S Uncovered) → (Is (covers q) → q.kinds < s → S SecondStart)
      → (r : Reason) → bench_verdict q s ≡ Err r → S r
  unfolding bench_verdict
  bench_refusals S uncovered second = two_refusals Uncovered SecondStart (not (covers q)) (ltb q.kinds s) S
      (λ e. uncovered (not-true (covers q) e)) (λ e f. second (rw (not-false (covers q) e) tt) (ltb-true q.kinds s f))

  pub bench_not : (r : Reason) → reason_number r ≢ 19 → reason_number r ≢ 20 → bench_verdict q s ≡ Err r → ⊥
  unfolding bench_verdict
  bench_not = two_not Uncovered SecondStart (not (covers q)) (ltb q.kinds s)

  -- what is accepted fits two cutters
  pub bench_enough : bench_verdict q s ≡ Accepted → Is (covers q) × (s ≤ q.kinds)
  unfolding bench_verdict
  bench_enough a =
      let (e, f) = two_accepted Uncovered SecondStart (not (covers q)) (ltb q.kinds s) a in
      (rw (not-false (covers q) e) tt, ltb-false q.kinds s f)

  -- each verdict exactly under its condition
  pub uncovered_verdict : (bench_verdict q s ≡ Err Uncovered) ↔ (covers q ≡ false)
  uncovered_verdict =
      ((λ a. bench_refusals (λ r. reason_number r ≡ 19 → covers q ≡ false) (λ c _. c) (λ _ _ e. absurd (omega arith)) Uncovered a refl), bench_uncovered)

  pub second_verdict : (bench_verdict q s ≡ Err SecondStart) ↔ (Is (covers q) × (q.kinds < s))
  second_verdict = (
    (λ a. bench_refusals (λ r. reason_number r ≡ 20 → Is (covers q) × (q.kinds < s)) (λ _ e. absurd (omega arith)) (λ c l _. (c, l)) SecondStart a refl),
    (λ h. bench_second h.0 h.1),
  )

  pub bench_verdict_lem : (bench_verdict q s ≡ Accepted) ↔ (Is (covers q) × (s ≤ q.kinds))
  bench_verdict_lem = (bench_enough, (λ h. bench_accepted h.0 h.1))

  pub divided_by_cost : ByCost q (divided q s)
  divided_by_cost = record { on_none = refl; on_some = λ c. (message (best_split q s c), refl) }

  -- ---- what is asked, then what is lent

  module _ (n room : ℕ) where
    pub bench_refused : (r : Reason) → bench_verdict q s ≡ Err r → split_ending_of q s n room ≡ refused r
    unfolding split_ending_of
    bench_refused r h = check_refused (divided_in q s n room) h

    pub bench_passed : bench_verdict q s ≡ Accepted → split_ending_of q s n room ≡ divided_in q s n room
    unfolding split_ending_of
    bench_passed h = check_accepted (divided_in q s n room) h

-- ---- the message

module _ (bytes : List ℕ) (s n room : ℕ) where
  abbrev q : Queue
  q = (read_queue bytes).queue

  pub message_refused : (r : Reason) → (read_queue bytes).verdict ≡ Err r → split_ending (read_queue bytes) s n room ≡ refused r
  unfolding split_ending
  message_refused r h = check_refused (split_ending_of q s n room) h

  pub message_accepted : (read_queue bytes).verdict ≡ Accepted → split_ending (read_queue bytes) s n room ≡ split_ending_of q s n room
  unfolding split_ending
  message_accepted h = check_accepted (split_ending_of q s n room) h

  -- an accepted message without 19 and 20, with room for its split plan and its table, is split by what is taken
  pub reached : (read_queue bytes).verdict ≡ Accepted → Is (covers q) → s ≤ q.kinds → 77 ≤ room → entries (problem q) ≤ n
      → split_ending (read_queue bytes) s n room ≡ divided q s (taken_cost (problem q) s)
  reached h c l k m =
      message_accepted h ∙ bench_passed q s n room (bench_accepted q s c l) ∙ check_accepted (divided q s (taken_cost (problem q) s)) (in_room _ n room k m)
