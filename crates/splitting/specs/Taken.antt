-- The split taken: the least cost over all counts n_1 .. n_N of the first cutter, and among equal costs 02's first.
use Rattle.std.specs.Prelude.{List, [], ◌∷◌, ◌≡◌, ℕ, suc, pred, ◌≤◌}
use Rattle.std.proofs.Math.Option.{Option, none, some}
use Rattle.sequencing.specs.Problem.{Problem}
use Rattle.sequencing.specs.States.{all_left, IsLeft}
use Rattle.sequencing.specs.Least.{least, arg_least}
use Rattle.sequencing.specs.Recursion.{plan_cost}
use Rattle.sequencing.specs.Ties.{Precedes}
use Rattle.splitting.specs.Splits.{of_both}
use Rattle.splitting.specs.Shares.{share, share_order, first_share, second_share}

-- the cost of both cutters, none where either has none
abbrev pub both : (goal : ℕ) (first second : Option ℕ) → Option ℕ
both goal none b = none
both goal (some a) none = none
both goal (some a) (some b) = some (of_both goal a b)

-- the least of f over all n with n_j ≤ c_j; x counts from 1, so that n_1 is one less
unfoldable pub least_cost : (List ℕ → Option ℕ) → List ℕ → Option ℕ
least_cost f [] = f []
least_cost f (c ∷ cs) = least (λ x. least_cost (λ n. f (pred x ∷ n)) cs) (suc c)

-- the n that reaches it with the smallest n_1, then the smallest n_2, and on
unfoldable pub least_counts : (List ℕ → Option ℕ) → List ℕ → List ℕ
least_counts f [] = []
least_counts f (c ∷ cs) =
    let a : ℕ = pred (arg_least (λ x. least_cost (λ n. f (pred x ∷ n)) cs) (suc c)) in
    a ∷ least_counts (λ n. f (a ∷ n)) cs

module _ (P : Problem) (s : ℕ) where
  -- the cost of the split with n_j jobs of kind j on the first cutter
  unfoldable pub counts_cost : List ℕ → Option ℕ
  counts_cost n = both P.goal (plan_cost (share P P.start (first_share P n))) (plan_cost (share P s (second_share P n)))

  -- the cost of the split taken, over all n with n_j ≤ K_j
  unfoldable pub taken_cost : Option ℕ
  taken_cost = least_cost counts_cost (all_left P)

  -- its n
  unfoldable pub taken_counts : List ℕ
  taken_counts = least_counts counts_cost (all_left P)

  -- the first cutter's jobs, place by place
  unfoldable pub first_order : List ℕ
  first_order = share_order P P.start (first_share P taken_counts)

  -- and the second's
  unfoldable pub second_order : List ℕ
  second_order = share_order P s (second_share P taken_counts)

  -- 02's sentence: n costs c, no counts cost less, and any others that cost c have the greater count of the first kind where they differ
  pub record Taken (n : List ℕ) (c : ℕ) : Type 0 where
    pub counts : IsLeft P n
    pub reached : counts_cost n ≡ some c
    pub bound : (m : List ℕ) (d : ℕ) → IsLeft P m → counts_cost m ≡ some d → c ≤ d
    pub first : (m : List ℕ) → IsLeft P m → counts_cost m ≡ some c → Precedes n m
