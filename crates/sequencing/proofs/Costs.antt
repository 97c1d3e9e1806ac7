-- The cost of an order, finish by finish, is the cost by the recursion's weights.
-- Assumes nothing.
use mathlib.Core.Bool.{Bool, true, false, cond}
use mathlib.Core.List.{List, [], ◌∷◌, map}
use mathlib.Core.Path.{◌≡◌}
use Prim.Native.Nat.{ℕ, ◌+◌, ◌*◌}
use native.Mathlib.Nat.{mul-add, add-mul}
use native.Mathlib.Omega.{arith}
use lib.Dec.{eqb}
use Rattle.gaps.specs.Gaps.{seconds_of}
use Rattle.sequencing.specs.Lists.{weigh}
use Rattle.sequencing.specs.Problem.{Problem, kind}
use Rattle.sequencing.specs.Orders.{finishes, makespan, weighted_completion, cost}
use Rattle.sequencing.specs.States.{complete}
use Rattle.sequencing.specs.Recursion.{W}
use Rattle.sequencing.proofs.Vectors.{complete_weigh, weigh_none}
use Rattle.sequencing.proofs.Fills.{Fills}

module _ (P : Problem) where
  -- v × gap, step by step, where v k is what a second costs with k left
  unfoldable pub by_steps : (List ℕ → ℕ) → ℕ → List ℕ → List ℕ → ℕ
  by_steps v L k [] = 0
  by_steps v L k (x ∷ xs) = v k * seconds_of (P.gap L x) + by_steps v x (complete k x) xs

  makespan_is : (L t : ℕ) (k xs : List ℕ) → makespan t (finishes P.gap L t xs) ≡ t + by_steps (λ k. 1) L k xs
  unfolding makespan finishes by_steps
  makespan_is L t k [] = omega arith
  makespan_is L t k (x ∷ xs) = omega (arith, makespan_is x (t + seconds_of (P.gap L x)) (complete k x) xs)

  waiting_is : (L t : ℕ) (k xs : List ℕ) → Fills P k xs
      → weighted_completion P.weight xs (finishes P.gap L t xs) ≡ weigh P.weight k * t + by_steps (weigh P.weight) L k xs
  unfolding weighted_completion finishes by_steps Fills
  waiting_is L t k [] f = rw (weigh_none P.weight k f) (omega arith)
  waiting_is L t k (x ∷ xs) f =
      rw (← (complete_weigh P.weight k x f.0), waiting_is x (t + seconds_of (P.gap L x)) (complete k x) xs f.2) (simp (mul-add, add-mul) (omega arith))

  pub cost_is : (o k : List ℕ) → Fills P k (map (kind P) o) → cost P o ≡ by_steps (W P) P.start k (map (kind P) o)
  unfolding cost W
  cost_is o k f = go (eqb P.goal 1)
    where
      go : (b : Bool) → cond b (makespan 0 (finishes P.gap P.start 0 (map (kind P) o)))
          (weighted_completion P.weight (map (kind P) o) (finishes P.gap P.start 0 (map (kind P) o)))
          ≡ by_steps (λ k. cond b 1 (weigh P.weight k)) P.start k (map (kind P) o)
      go true = omega (arith, makespan_is P.start 0 k (map (kind P) o))
      go false = omega (arith, waiting_is P.start 0 k (map (kind P) o) f)
