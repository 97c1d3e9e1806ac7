-- Each of splitting's refusals is given exactly under its condition, and 17 never where nothing is forbidden.
-- Assumes nothing.
use Rattle.refusal.specs.Answers.{Answer, Accepted}
use Rattle.std.specs.Prelude.{Ok, Err}
use Prim.Native.Nat.{ℕ, ◌≤◌, ◌<◌}
use mathlib.Core.Bool.{false}
use mathlib.Core.List.{List}
use mathlib.Core.Logic.{◌↔◌, ◌≢◌}
use mathlib.Core.Path.{◌≡◌, refl}
use native.Mathlib.Omega.{arith}
use lib.Dec.{T as Is}
use Rattle.refusal.specs.declared.Reason.{Reason}
use Rattle.refusal.specs.declared.Reason.TheVariants.{Buffer, Table, NoOrder, Uncovered, SecondStart}
use Rattle.refusal.specs.Reasons.{reason_number}
use Rattle.queue.specs.declared.Queue.{Queue}
use Rattle.queue.specs.Reading.{read_queue}
use Rattle.queue.specs.Refusals.{QueueRefusal}
use Rattle.queue_laws.proofs.Theorems.{accepted_valid, queue_of_message}
use Rattle.sequencing.specs.Problem.{NoneForbidden}
use Rattle.sequencing.specs.Entries.{entries}
use Rattle.problem.specs.OfQueue.{problem}
use Rattle.problem.proofs.Rule.{proper}
use Rattle.splitting.specs.Splits.{IsSplit, SplitPermitted}
use Rattle.splitting.specs.Taken.{taken_cost}
use Rattle.splitting.specs.Covers.{covers}
use Rattle.splitting.proofs.Best.{no_split_lem, always_split}
use Rattle.best_order.specs.Endings.{Ending, answer_of, filled_for, table_of}
use Rattle.best_order.proofs.Calls.{cost_fills, cost_none}
use Rattle.best_order.proofs.Checks.{refused_here, refused_later, never_refused, through, then, then_three, then_both}
use Rattle.best_order.proofs.Refusals.{after_message, lent_not, lent_buffer, lent_table, lent_none}
use Rattle.best_split.specs.Endings.{bench_verdict, divided, divided_in, split_ending_of, split_ending}
use Rattle.best_split.proofs.Endings.{bench_not, uncovered_verdict, second_verdict, bench_verdict_lem, divided_by_cost}

module _ (s : List ℕ) (second n room : ℕ) where
  abbrev q : Queue
  q = (read_queue s).queue

  abbrev last : Ending
  last = divided q second (taken_cost (problem q) second)

  abbrev answer : Answer
  answer = answer_of (split_ending (read_queue s) second n room)

  abbrev fills : table_of last ≡ filled_for q
  fills = cost_fills (divided_by_cost q second) (taken_cost (problem q) second)

  -- 19 and 20 are given by what is asked
  on_bench : (r : Reason) → reason_number r ≢ 15 → reason_number r ≢ 16 → reason_number r ≢ 17
      → (answer_of (split_ending_of q second n room) ≡ Err r) ↔ (bench_verdict q second ≡ Err r)
  unfolding split_ending_of
  on_bench r x y z = refused_here (bench_verdict q second) (divided_in q second n room) r (lent_not (entries (problem q)) n room last fills r x y z)

  -- 15 to 17 by what is lent and what is found, once two cutters can have the queue
  past_bench : {F : Type 0} (r : Reason) → reason_number r ≢ 19 → reason_number r ≢ 20 → (answer_of (divided_in q second n room) ≡ Err r) ↔ F
      → (answer_of (split_ending_of q second n room) ≡ Err r) ↔ (Is (covers q) × (second ≤ q.kinds) × F)
  unfolding split_ending_of
  past_bench r x y = then_both (refused_later (bench_verdict q second) (divided_in q second n room) r (bench_not q second r x y)) (bench_verdict_lem q second)

  -- 1 to 14: the message's own refusal, and no other message is refused so
  pub message_exactly : (r : Reason) → QueueRefusal r → (answer ≡ Err r) ↔ ((read_queue s).verdict ≡ Err r)
  unfolding split_ending split_ending_of
  message_exactly r own =
      let m = queue_of_message r own in
      refused_here (read_queue s).verdict (split_ending_of q second n room) r
      (never_refused (bench_verdict q second) (divided_in q second n room) r (bench_not q second r m.not_uncovered m.not_second)
      (lent_not (entries (problem q)) n room last fills r m.not_buffer m.not_table m.not_order))

  -- 19
  pub uncovered_exactly : (answer ≡ Err Uncovered) ↔ (((read_queue s).verdict ≡ Accepted) × (covers q ≡ false))
  unfolding split_ending split_ending_of
  uncovered_exactly = then (after_message s (split_ending_of q second n room) Uncovered (λ own. own.not_uncovered refl))
      (λ _. through (on_bench Uncovered (omega arith) (omega arith) (omega arith)) (uncovered_verdict q second))

  -- 20
  pub second_exactly : (answer ≡ Err SecondStart) ↔ (((read_queue s).verdict ≡ Accepted) × (Is (covers q) × (q.kinds < second)))
  unfolding split_ending split_ending_of
  second_exactly = then (after_message s (split_ending_of q second n room) SecondStart (λ own. own.not_second refl))
      (λ _. through (on_bench SecondStart (omega arith) (omega arith) (omega arith)) (second_verdict q second))

  -- 15
  pub buffer_exactly : (answer ≡ Err Buffer) ↔ (((read_queue s).verdict ≡ Accepted) × Is (covers q) × (second ≤ q.kinds) × (room < 77))
  unfolding split_ending split_ending_of
  buffer_exactly = then_three (after_message s (split_ending_of q second n room) Buffer (λ own. own.not_buffer refl))
      (λ _. past_bench Buffer (omega arith) (omega arith) (lent_buffer (entries (problem q)) n room last fills))

  -- 16, with N × P
  pub table_exactly : (needed : ℕ) → (answer ≡ Err (Table needed))
      ↔ (((read_queue s).verdict ≡ Accepted) × Is (covers q) × (second ≤ q.kinds) × ((77 ≤ room) × (n < entries (problem q)) × (needed ≡ entries (problem q))))
  unfolding split_ending split_ending_of
  table_exactly needed = then_three (after_message s (split_ending_of q second n room) (Table needed) (λ own. own.not_table refl))
      (λ _. past_bench (Table needed) (omega arith) (omega arith) (lent_table (entries (problem q)) n room last fills needed))

  -- 17
  pub order_exactly : (answer ≡ Err NoOrder)
      ↔ (((read_queue s).verdict ≡ Accepted) × Is (covers q) × (second ≤ q.kinds) × ((77 ≤ room) × (entries (problem q) ≤ n)
      × ((o₁ o₂ : List ℕ) → IsSplit (problem q) o₁ o₂ → SplitPermitted (problem q) second o₁ o₂ → ⊥)))
  unfolding split_ending split_ending_of
  order_exactly = then_three (after_message s (split_ending_of q second n room) NoOrder (λ own. own.not_order refl))
      (λ h. past_bench NoOrder (omega arith) (omega arith)
      (lent_none (entries (problem q)) n room last fills (through (cost_none (divided_by_cost q second) (taken_cost (problem q) second)) (no_split_lem (problem q) (proper q (accepted_valid s h)) second))))

  -- so never where nothing is forbidden
  pub never_17 : NoneForbidden (problem q) → answer ≢ Err NoOrder
  never_17 free a =
      let (h, c, l, x) = order_exactly.0 a in
      let v = accepted_valid s h in
      always_split (problem q) (proper q v) second free v.start l ((no_split_lem (problem q) (proper q v) second).1 x.2)
