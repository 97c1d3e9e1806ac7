-- An order holds the jobs 1 to T, each once, and nothing else.
-- Assumes nothing.
use mathlib.Core.List.{List, ◌∷◌}
use mathlib.Core.Logic.{inl, inr}
use mathlib.Core.Path.{◌≡◌, ap}
use Prim.Native.Nat.{ℕ, ◌≤◌}
use native.Mathlib.Nat.{eq-zero-or-pos}
use native.Mathlib.Omega.{arith}
use Rattle.sequencing.specs.Lists.{upto, sum, count}
use Rattle.sequencing.specs.Problem.{Problem, T}
use Rattle.sequencing.specs.Orders.{IsOrder}
use Rattle.sequencing.proofs.Counting.{one_cases, from_in, from_le, double, sum_map_le, sum_map_ones}

at_most_one : (z n y : ℕ) → count z (upto n) ≡ 0 → count y (z ∷ upto n) ≤ 1
unfolding count
at_most_one z n y e = elim (one_cases y z) [ inl q ↦ omega (arith, q.1, ap (λ (v : ℕ). count v (upto n)) q.0) | inr q ↦ omega (arith, from_le y 1 n) ]

module _ (P : Problem) where
  pub order_counts : (o : List ℕ) → IsOrder P o → (z : ℕ) → count z o ≡ count z (upto (T P))
  unfolding sum
  order_counts o i z = elim (eq-zero-or-pos (count z (upto (T P)))) [
    | inl e ↦ omega (
      arith,
      double o (z ∷ upto (T P)),
      sum_map_le (λ y. count y (z ∷ upto (T P))) o (λ y. at_most_one z (T P) y e),
      i.whole,
      sum_map_ones (λ j. count j o) 1 (T P) (λ y l u. i.once y l (omega arith)),
    )
    | inr h ↦ (let q = from_in z 1 (T P) h in omega (arith, from_le z 1 (T P), i.once z q.0 (omega arith)))
  ]
