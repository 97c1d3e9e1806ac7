-- Following the recursion with any k left: a first kind that is given, and the jobs of each kind up to one of them.
use Rattle.std.specs.Prelude.{List, [], ◌∷◌, ℕ, zero, suc, ◌-◌}
use Rattle.sequencing.specs.Lists.{at}
use Rattle.sequencing.specs.Problem.{Problem}
use Rattle.sequencing.specs.States.{complete, jobs_of}
use Rattle.sequencing.specs.Recursion.{walk}

module _ (P : Problem) where
  -- the kinds taken at n places with k left, the first of them x: then each time the recursion's choice
  unfoldable pub walk_by : ℕ → ℕ → List ℕ → List ℕ
  walk_by zero x k = []
  walk_by (suc n) x k = x ∷ walk P n x (complete k x)

  -- the jobs of a sequence of kinds, with k left before it, each kind by hand-in and up to its m_j-th job (all K_j: 01's own order)
  unfoldable pub by_hand_in_upto : List ℕ → List ℕ → List ℕ → List ℕ
  by_hand_in_upto m k [] = []
  by_hand_in_upto m k (x ∷ xs) = at (jobs_of P x) (at m x - at (complete k x) x) ∷ by_hand_in_upto m (complete k x) xs
