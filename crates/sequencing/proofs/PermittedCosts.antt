-- What never adds to a finish does not matter to a permitted order: numbers that agree with the seconds of the gaps give its finishes and its cost.
-- Assumes nothing.
use mathlib.Core.Bool.{cond}
use mathlib.Core.List.{List, [], ◌∷◌, map}
use mathlib.Core.Path.{◌≡◌, refl, ap}
use Prim.Native.Nat.{ℕ, ◌+◌}
use lib.Dec.{eqb}
use Rattle.gaps.specs.Gaps.{seconds_of}
use Rattle.gaps.proofs.Gaps.{lasting, some_seconds}
use Rattle.sequencing.specs.Problem.{Problem, kind}
use Rattle.sequencing.specs.Orders.{SuccessionsPermitted, Permitted, finishes, makespan, weighted_completion, cost}

module _ (P : Problem) (f : ℕ → ℕ → ℕ) (agree : (i j s : ℕ) → P.gap i j ≡ lasting s → f i j ≡ s) where
  pub finishes_permitted : (L t : ℕ) (xs : List ℕ) → SuccessionsPermitted P L xs → finishes (λ i j. lasting (f i j)) L t xs ≡ finishes P.gap L t xs
  unfolding finishes SuccessionsPermitted
  finishes_permitted L t [] g = refl
  finishes_permitted L t (x ∷ xs) g =
      let e : f L x ≡ seconds_of (P.gap L x) = agree L x _ (some_seconds (P.gap L x) g.0) in
      rw e (ap (λ fs. (t + seconds_of (P.gap L x)) ∷ fs) (finishes_permitted x (t + seconds_of (P.gap L x)) xs g.1))

  -- the problem with those numbers in place of its gaps
  abbrev pub numbered : Problem
  numbered = record { N = P.N; jobs = P.jobs; start = P.start; gap = λ i j. lasting (f i j); goal = P.goal; weight = P.weight; ok = P.ok }

  pub cost_permitted : (o : List ℕ) → Permitted P o → cost numbered o ≡ cost P o
  unfolding cost
  cost_permitted o p =
      ap (λ fs. cond (eqb P.goal 1) (makespan 0 fs) (weighted_completion P.weight (map (kind P) o) fs))
      (finishes_permitted P.start 0 (map (kind P) o) p.successions)
