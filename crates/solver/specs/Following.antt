-- Following a filled table: the jobs of a share of the queue, in the recursion's order.
use Rattle.std.specs.Prelude.{List, ◌≡◌, ℕ, ◌≤◌, ◌<◌}
use Rattle.std.proofs.Math.Option.{none}
use Rattle.fields.specs.Lists.{filled}
use Rattle.queue.specs.declared.Queue.{Queue}
use Rattle.sequencing.specs.Lists.{at, sum}
use Rattle.sequencing.specs.Problem.{Problem}
use Rattle.sequencing.specs.States.{complete, K}
use Rattle.sequencing.specs.Recursion.{value}
use Rattle.sequencing.specs.Following.{walk_by, by_hand_in_upto}
use Rattle.sequencing.specs.Entries.{k_at}
use Rattle.problem.specs.OfQueue.{problem}
use Rattle.jobs_left.specs.declared.JobsLeft.{JobsLeft}
use Rattle.jobs_left.specs.Steps.{LeftAt}

-- a kind that can be taken next with k left: a job of it is left, and the state then is kept
pub record Takes (P : Problem) (k : List ℕ) (x : ℕ) : Type 0 where
  pub low : 1 ≤ x
  pub high : x ≤ P.N
  pub some_left : 0 < at k x
  pub found : value P x (complete k x) ≡ none → ⊥

-- a share of the queue: what is left where it begins, up to which job of each kind, and the first kind, from which its places can be filled
pub record Share (q : Queue) (from : JobsLeft) (upto : List ℕ) (first : ℕ) : Type 0 where
  pub left_at : LeftAt (problem q) from.left from.index
  pub within : (j : ℕ) → 1 ≤ j → j ≤ q.kinds → (at from.left j ≤ at upto j) × (at upto j ≤ K (problem q) j)
  pub takes : 0 < sum (k_at (problem q) from.index) → Takes (problem q) (k_at (problem q) from.index) first

-- its order
abbrev pub Followed : (q : Queue) (upto : List ℕ) (index first : ℕ) (order : List ℕ) → Type 0
Followed q upto index first order =
    order ≡ filled 60 (by_hand_in_upto (problem q) upto (k_at (problem q) index) (walk_by (problem q) (sum (k_at (problem q) index)) first (k_at (problem q) index)))
