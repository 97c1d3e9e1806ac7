-- Lists whose numbers ascend: what is dropped to is the least of what is left.
-- Assumes nothing.
use mathlib.Core.Bool.{Bool}
use mathlib.Core.List.{List, [], ◌∷◌}
use mathlib.Core.Logic.{inl, inr}
use mathlib.Mathlib.Data.Bool.Basic.{dichotomy}
use Prim.Native.Nat.{ℕ, zero, suc, ◌≤◌, ◌<◌}
use native.Mathlib.Omega.{arith}
use lib.ListN.{get_or, drop}
use Rattle.sequencing.specs.Lists.{from, count, filter}
use Rattle.sequencing.proofs.Counting.{one_cases}

unfoldable pub Asc : ℕ → List ℕ → Type 0
Asc b [] = Unit {0}
Asc b (x ∷ xs) = (b < x) × Asc x xs

pub asc_from : (b i n : ℕ) → b < i → Asc b (from i n)
unfolding Asc from
asc_from b i zero h = tt
asc_from b i (suc n) h = (h, asc_from i (suc i) n (omega arith))

pub asc_filter : (p : ℕ → Bool) (b c : ℕ) (xs : List ℕ) → b ≤ c → Asc c xs → Asc b (filter p xs)
unfolding Asc filter
asc_filter p b c [] h a = tt
asc_filter p b c (x ∷ xs) h a = elim (dichotomy (p x)) [
  | inr e ↦ rw e (omega arith, asc_filter p x x xs (omega arith) a.1)
  | inl e ↦ rw e (asc_filter p b x xs (omega arith) a.1)
]

asc_lt : (b z : ℕ) (xs : List ℕ) → Asc b xs → 0 < count z xs → b < z
unfolding Asc count
asc_lt b z [] a h = omega arith
asc_lt b z (x ∷ xs) a h = elim (one_cases z x) [ inl e ↦ omega arith | inr e ↦ omega (arith, asc_lt x z xs a.1 (omega arith)) ]

pub asc_least : (b z r : ℕ) (xs : List ℕ) → Asc b xs → 0 < count z (drop r xs) → get_or xs r 0 ≤ z
unfolding Asc count
asc_least b z zero [] a h = omega arith
asc_least b z (suc r) [] a h = omega arith
asc_least b z zero (x ∷ xs) a h = elim (one_cases z x) [ inl e ↦ omega arith | inr e ↦ omega (arith, asc_lt x z xs a.1 (omega arith)) ]
asc_least b z (suc r) (x ∷ xs) a h = asc_least x z r xs a.1 h
