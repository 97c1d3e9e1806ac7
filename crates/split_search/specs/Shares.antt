-- Both cutters' orders by a filled table.
use Rattle.std.specs.Prelude.{List, ◌≢◌, ℕ, ◌≤◌}
use Rattle.std.proofs.Math.Option.{none}
use Rattle.queue.specs.declared.Queue.{Queue}
use Rattle.sequencing.specs.Lists.{at, sum}
use Rattle.sequencing.specs.Problem.{Problem}
use Rattle.sequencing.specs.States.{K}
use Rattle.sequencing.specs.Recursion.{cost_to_go, walk}
use Rattle.sequencing.specs.Following.{by_hand_in_upto}
use Rattle.sequencing.specs.Entries.{k_at}
use Rattle.problem.specs.OfQueue.{problem}
use Rattle.jobs_left.specs.declared.JobsLeft.{JobsLeft}
use Rattle.jobs_left.specs.Steps.{LeftOf}

-- the jobs of the walk from row L with k left, each kind by hand-in and up to its m_j-th job
abbrev pub order_from : Problem → (m : List ℕ) (L : ℕ) (k : List ℕ) → List ℕ
order_from P m L k = by_hand_in_upto P m k (walk P (sum k) L k)

-- a share of the queue from row L: what is left, up to which job of each kind, and that there is an order
pub record ShareFrom (q : Queue) (k : JobsLeft) (upto : List ℕ) (L : ℕ) : Type 0 where
  pub left_of : LeftOf (problem q) k
  pub within : (j : ℕ) → 1 ≤ j → j ≤ q.kinds → (at k.left j ≤ at upto j) × (at upto j ≤ K (problem q) j)
  pub row_in : L ≤ q.kinds
  pub found : cost_to_go (problem q) L (k_at (problem q) k.index) ≢ none
