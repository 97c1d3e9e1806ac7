-- Splitting ends as a call does, and its answer fits 64 bits.
-- Assumes nothing.
use Rattle.std.specs.Prelude.{Ok}
use Prim.Native.Nat.{ℕ, ◌^◌, ◌≤◌, ◌<◌}
use mathlib.Core.List.{List}
use mathlib.Core.Option.{Option, none, some}
use mathlib.Core.Path.{◌≡◌, refl}
use native.Mathlib.Omega.{arith}
use Rattle.refusal.specs.Answers.{answer_number, Accepted}
use Rattle.queue.specs.declared.Queue.{Queue}
use Rattle.queue.specs.Reading.{read_queue}
use Rattle.queue_laws.proofs.Theorems.{accepted_valid}
use Rattle.problem.specs.OfQueue.{problem}
use Rattle.splitting.specs.Taken.{taken_cost}
use Rattle.best_order.specs.Endings.{refused, answer_of}
use Rattle.best_order.proofs.Calls.{OfCall, answer_fits}
use Rattle.best_order.proofs.Checks.{check_of_call}
use Rattle.best_order.proofs.Answers.{message_of_call, room_of_call}
use Rattle.best_split.specs.Endings.{bench_verdict, divided, divided_in, split_ending_of, split_ending}
use Rattle.best_split.proofs.Endings.{bench_refusals, bench_enough}
use Rattle.best_split.proofs.Plans.{split_short}

module _ (s : List ℕ) (second : ℕ) where
  abbrev q : Queue
  q = (read_queue s).queue

  short : (read_queue s).verdict ≡ Accepted → second ≤ q.kinds → (r : Option ℕ) → taken_cost (problem q) second ≡ r → OfCall s (divided q second r)
  short h l none e = refl
  short h l (some c) e = omega (arith, split_short q (accepted_valid s h) second c e l)

  pub splitting_of_call : (n room : ℕ) → OfCall s (split_ending (read_queue s) second n room)
  unfolding split_ending split_ending_of
  splitting_of_call n room = message_of_call s (split_ending_of q second n room) (λ h. check_of_call s (bench_verdict q second) (divided_in q second n room)
      (bench_refusals q second (λ r. OfCall s (refused r)) (λ _. (omega arith, omega arith)) (λ _ _. (omega arith, omega arith)))
      (λ b. room_of_call s q (accepted_valid s h) n room (divided q second (taken_cost (problem q) second))
      (short h (bench_enough q second b).1 (taken_cost (problem q) second) refl)))

  pub splitting_fits : (n room : ℕ) → answer_number (answer_of (split_ending (read_queue s) second n room)) < 2 ^ 64
  splitting_fits n room = answer_fits s (split_ending (read_queue s) second n room) (splitting_of_call n room)
