-- The contract of asking how much table to lend, from the answer; and the answer fits 64 bits.
-- Assumes nothing.
use Rattle.std.specs.Prelude.{Ok, Err}
use Prim.Native.Nat.{ℕ, ◌^◌, ◌≤◌, ◌<◌}
use mathlib.Core.List.{List}
use mathlib.Core.Path.{◌≡◌, refl, ap, ◌∙◌}
use native.Mathlib.Omega.{arith}
use lib.ListN.{length, take}
use Rattle.refusal.specs.declared.Reason.{Reason}
use Rattle.refusal.specs.Answers.{answer_number, entries_number, most_number, value_of, TableSize, Verdict, Accepted}
use Rattle.refusal.proofs.Reasons.{reason_range, of_message_needed}
use Rattle.queue.specs.declared.Queue.{Queue}
use Rattle.queue.specs.Record.{Valid}
use Rattle.queue.specs.Reading.{read_queue}
use Rattle.queue_laws.proofs.Theorems.{accepted_valid, queue_refusal, queue_of_message}
use Rattle.plan.specs.Reading.{read_plan}
use Rattle.sequencing.specs.Problem.{AllPermitted}
use Rattle.sequencing.specs.States.{all_left}
use Rattle.sequencing.specs.Entries.{entries}
use Rattle.sequencing.specs.Counts.{CountsFeasible}
use Rattle.problem.specs.OfQueue.{problem}
use Rattle.problem.specs.Unforbidden.{NoNever}
use Rattle.problem.proofs.Sizes.{entries_small}
use Rattle.problem.proofs.Unforbidden.{none_forbidden}
use Rattle.state_count.specs.StateCount.{most_feasible}
use Rattle.state_count.proofs.States.{states_count, most_entries}
use Rattle.state_count.proofs.Most.{at_most, all_counted}
use Rattle.best_order.specs.Endings.{room_verdict, ending, answer_of}
use Rattle.best_order.specs.Planning.{Planning}
use Rattle.best_order.proofs.Endings.{room_enough, room_refused, message_refused, message_accepted}
use Rattle.table_size.specs.Sizes.{sizes, table_size}
use Rattle.table_size.specs.Largest.{Largest}
use Rattle.table_size.specs.Sizing.{Sizing}
use Rattle.table_size.proofs.Freed.{freed, freed_counts, freed_valid, freed_never, freed_permitted}

-- 02's sum of a valid record is the largest kept count that its counts allow
pub largest : (q : Queue) → Valid q → Largest q (most_feasible (all_left (problem q)))
largest q v = record {
  states = states_count (problem q);
  bound = λ q' e m c. rw e at (at_most (problem q') m c);
  free = own;
  reached = (freed q, freed_valid q v, refl, refl, own (freed q) (freed_counts q) (freed_permitted q v) (freed_never q v));
}
  where
    own : (q' : Queue) → all_left (problem q') ≡ all_left (problem q) → AllPermitted (problem q') → NoNever q' → CountsFeasible (problem q') (most_feasible (all_left (problem q)))
    own q' e permitted never = rw e at (all_counted (problem q') permitted (none_forbidden q' never))

-- ---- how asking ends

module _ (s : List ℕ) where
  pub size_refused : (r : Reason) → (read_queue s).verdict ≡ Err r → table_size (read_queue s) ≡ Err r
  unfolding table_size
  size_refused r e = rw e

  pub size_known : (read_queue s).verdict ≡ Accepted → table_size (read_queue s) ≡ Ok (sizes (read_queue s).queue)
  unfolding table_size
  size_known e = rw e

  -- V of the second question
  most_is : (read_queue s).verdict ≡ Accepted → value_of (most_number (table_size (read_queue s))) ≡ most_feasible (all_left (problem (read_queue s).queue))
  unfolding sizes
  most_is e = rw (size_known e) (omega arith)

  -- ---- planning the same message

  module _ (n room b : ℕ) (planned : Ok b ≡ answer_of (ending (read_queue s) n room)) where
    not_refused : (r : Reason) → Ok b ≡ Err r → ⊥
    not_refused r e = omega (arith, ap answer_number e, reason_range r)

    -- a planned message was accepted, and what was lent is enough
    was_accepted : (v : Verdict) → (read_queue s).verdict ≡ v → (read_queue s).verdict ≡ Accepted
    was_accepted (Ok tt) e = e
    was_accepted (Err r) e = absurd (not_refused r (planned ∙ ap answer_of (message_refused s n room r e)))

    was_enough : (read_queue s).verdict ≡ Accepted → (v : Verdict) → room_verdict (entries (problem (read_queue s).queue)) n room ≡ v
        → (77 ≤ room) × (entries (problem (read_queue s).queue) ≤ n)
    was_enough a (Ok tt) e = room_enough (entries (problem (read_queue s).queue)) n room e
    was_enough a (Err r) e = absurd (not_refused r (planned ∙ ap answer_of (message_accepted s n room a ∙ room_refused (read_queue s).queue n room r e)))

  reported : (table buffer table' buffer' : List ℕ) (b : ℕ) → Planning s table buffer table' buffer' (Ok b)
      → (read_plan (take b buffer')).plan.feasible_states ≤ value_of (most_number (table_size (read_queue s)))
  reported table buffer table' buffer' b p =
      let q = (read_queue s).queue in
      let a = was_accepted (length table) (length buffer) b p.answer_is (read_queue s).verdict refl in
      let (room, long) = was_enough (length table) (length buffer) b p.answer_is a (room_verdict (entries (problem q)) (length table) (length buffer)) refl in
      let (m, e, _, best) = (p.best_order a long room).otherwise (λ e. omega arith) in
      let same : m ≡ b = omega arith in
      rw (most_is a) (at_most (problem q) _ (rw same at best.kept))

  -- the contract
  pub sizing : {answer : TableSize} → answer ≡ table_size (read_queue s) → Sizing s answer
  sizing e = rw e (record {
    answer_is = refl;
    largest = λ a. rw (most_is a) (largest (read_queue s).queue (accepted_valid s a));
    reported = reported;
  })

  -- both numbers fit
  pub size_fits : (v : Verdict) → (read_queue s).verdict ≡ v → (entries_number (table_size (read_queue s)) < 2 ^ 64) × (most_number (table_size (read_queue s)) < 2 ^ 64)
  unfolding sizes
  size_fits (Ok tt) e =
      let q = (read_queue s).queue in
      let small = entries_small q (accepted_valid s e) in
      rw (size_known e) (omega (arith, small), omega (arith, small, most_entries (problem q)))
  size_fits (Err r) e =
      let none = of_message_needed r (queue_of_message r (queue_refusal s r e)) in
      rw (size_refused r e) (omega (arith, none, reason_range r), omega (arith, none, reason_range r))
