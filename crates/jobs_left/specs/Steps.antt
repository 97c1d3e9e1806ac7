-- Counting through all k, k_1 fastest: the k whose index is one more.
use Rattle.std.specs.Prelude.{ℕ, suc, ◌-◌, ◌<◌, cond, List, [], ◌∷◌, ◌≡◌, ltb, length, get_or, take}
use Rattle.sequencing.specs.Lists.{at, sum, weigh}
use Rattle.sequencing.specs.Problem.{Problem}
use Rattle.sequencing.specs.Entries.{k_at, block}
use Rattle.jobs_left.specs.declared.JobsLeft.{JobsLeft}

-- k with one job of the first kind more that has one to add, and none of the kinds before it
unfoldable pub next : List ℕ → List ℕ → List ℕ
next [] k = []
next (c ∷ cs) [] = []
next (c ∷ cs) (a ∷ k) = cond (ltb a c) (suc a ∷ k) (0 ∷ next cs k)

-- the jobs left in k, and their weight: the sum of k_j × w_j
pub record Summed (weights k : List ℕ) (jobs weight : ℕ) : Type 0 where
  pub jobs_are : jobs ≡ sum k
  pub weight_is : weight ≡ weigh (λ j. get_or weights (j - 1) 0) k

-- an array of five holds the k whose index is i, and 0 past the last kind
pub record LeftAt (P : Problem) (left : List ℕ) (i : ℕ) : Type 0 where
  pub long : length left ≡ 5
  pub here : take P.N left ≡ k_at P i
  pub past : (j : ℕ) → P.N < j → at left j ≡ 0
  pub within : i < block P

-- the same with the sums: what is left of the jobs of a problem
pub record LeftOf (P : Problem) (k : JobsLeft) : Type 0 where
  pub left_at : LeftAt P k.left k.index
  pub jobs_are : k.jobs ≡ sum (k_at P k.index)
  pub weight_is : k.weight ≡ weigh P.weight (k_at P k.index)
