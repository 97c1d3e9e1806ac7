-- The largest kept count that the counts of a queue's kinds allow.
use Rattle.std.specs.Prelude.{ℕ, ◌≤◌, ◌≡◌}
use Rattle.queue.specs.declared.Queue.{Queue}
use Rattle.queue.specs.Record.{kind_list, Valid}
use Rattle.sequencing.specs.Problem.{AllPermitted}
use Rattle.sequencing.specs.States.{all_left}
use Rattle.sequencing.specs.Counts.{CountsFeasible}
use Rattle.problem.specs.OfQueue.{problem}
use Rattle.problem.specs.Unforbidden.{NoNever}
use Rattle.state_count.specs.StateCount.{CountsStates}

-- a queue, and n
pub record Largest (q : Queue) (n : ℕ) : Type 0 where
  -- n is the number of 01's states
  pub states : CountsStates (problem q) n
  -- no queue with the same counts of its kinds has a larger kept count, this one included, whether it has a plan or not ..
  pub bound : (q' : Queue) → all_left (problem q') ≡ all_left (problem q) → (m : ℕ) → CountsFeasible (problem q') m → m ≤ n
  -- .. each in which every job is permitted at every place from 1 to T and no succession is forbidden has just this one ..
  pub free : (q' : Queue) → all_left (problem q') ≡ all_left (problem q) → AllPermitted (problem q') → NoNever q' → CountsFeasible (problem q') n
  -- .. and so has some queue with the same N and the same kinds of jobs
  pub reached : (q' : Queue) × Valid q' × (q'.kinds ≡ q.kinds) × (kind_list q' ≡ kind_list q) × CountsFeasible (problem q') n
