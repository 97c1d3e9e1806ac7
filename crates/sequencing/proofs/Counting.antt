-- How often a number stands in a list.
-- Assumes nothing.
use mathlib.Core.Bool.{Bool}
use mathlib.Core.List.{List, [], ◌∷◌, map}
use mathlib.Core.Logic.{◌⊎◌, inl, inr, ◌≢◌}
use mathlib.Core.Path.{◌≡◌, refl, sym, ap, subst}
use mathlib.Mathlib.Data.Bool.Basic.{dichotomy}
use Prim.Native.Nat.{ℕ, zero, suc, ◌+◌, ◌≤◌, ◌<◌}
use native.Mathlib.Nat.{eq-zero-or-pos}
use native.Mathlib.Omega.{arith}
use lib.Dec.{T as Is, eqb, eqb→eq, eqb_refl}
use lib.ListN.{length, get_or, drop}
use Rattle.sequencing.specs.Lists.{from, sum, one, count, filter}

pub one_cases : (z x : ℕ) → ((z ≡ x) × (one z x ≡ 1)) ⊎ ((z ≢ x) × (one z x ≡ 0))
one_cases z x = elim (dichotomy (eqb z x)) [
  | inr e ↦ inl (eqb→eq z x (rw e tt), rw e refl)
  | inl e ↦ inr ((λ q. rw e at (subst (λ y. Is (eqb z y)) q (eqb_refl z))), rw e refl)
]

pub one_self : (z : ℕ) → one z z ≡ 1
one_self z = elim (one_cases z z) [ inl e ↦ e.1 | inr e ↦ absurd (e.0 refl) ]

one_sym : (z x : ℕ) → one z x ≡ one x z
one_sym z x = elim (one_cases z x) [
  | inl p ↦ (elim (one_cases x z) [ inl q ↦ omega arith | inr q ↦ absurd (q.0 (sym p.0)) ])
  | inr p ↦ (elim (one_cases x z) [ inl q ↦ absurd (p.0 (sym q.0)) | inr q ↦ omega arith ])
]

pub count_filter : (p : ℕ → Bool) (z : ℕ) (xs : List ℕ) → Is (p z) → count z (filter p xs) ≡ count z xs
unfolding count filter
count_filter p z [] h = refl
count_filter p z (x ∷ xs) h = elim (dichotomy (p x)) [
  | inr e ↦ rw e (omega (arith, count_filter p z xs h))
  | inl e ↦ rw e (elim (one_cases z x) [ inl q ↦ absurd (rw e at (subst (λ y. Is (p y)) q.0 h)) | inr q ↦ omega (arith, count_filter p z xs h) ])
]

pub length_filter : (f : ℕ → ℕ) (j : ℕ) (xs : List ℕ) → length (filter (λ i. eqb j (f i)) xs) ≡ count j (map f xs)
unfolding count filter
length_filter f j [] = refl
length_filter f j (x ∷ xs) = elim (dichotomy (eqb j (f x))) [
  | inr e ↦ rw e (omega (arith, length_filter f j xs))
  | inl e ↦ rw e (omega (arith, length_filter f j xs))
]

pub get_d_filter : (p : ℕ → Bool) (xs : List ℕ) (r : ℕ) → r < length (filter p xs) → Is (p (get_or (filter p xs) r 0))
unfolding filter
get_d_filter p [] r h = absurd (omega arith)
get_d_filter p (x ∷ xs) zero h = elim (dichotomy (p x)) [ inr e ↦ rw e (rw e tt) | inl e ↦ rw e (get_d_filter p xs zero (rw e at h)) ]
get_d_filter p (x ∷ xs) (suc r) h = elim (dichotomy (p x)) [
  | inr e ↦ rw e (get_d_filter p xs r (omega (arith, rw e at h)))
  | inl e ↦ rw e (get_d_filter p xs (suc r) (rw e at h))
]

pub count_at : (xs : List ℕ) (a : ℕ) → a < length xs → 0 < count (get_or xs a 0) xs
unfolding count
count_at [] a h = absurd (omega arith)
count_at (x ∷ xs) zero h = omega (arith, one_self x)
count_at (x ∷ xs) (suc a) h = omega (arith, count_at xs a (omega arith))

pub count_drop : (z r : ℕ) (xs : List ℕ) → count z (drop r xs) ≤ count z xs
unfolding count
count_drop z zero xs = omega arith
count_drop z (suc r) [] = omega arith
count_drop z (suc r) (x ∷ xs) = omega (arith, count_drop z r xs)

-- a number of i, i + 1, .. stands there once, and any other not at all
pub from_in : (z i n : ℕ) → 0 < count z (from i n) → (i ≤ z) × (z < i + n)
unfolding count from
from_in z i zero h = omega arith
from_in z i (suc n) h = elim (one_cases z i) [ inl e ↦ omega arith | inr e ↦ omega (arith, from_in z (suc i) n (omega arith)) ]

pub from_le : (z i n : ℕ) → count z (from i n) ≤ 1
unfolding count from
from_le z i zero = omega arith
from_le z i (suc n) = elim (one_cases z i) [
  | inl e ↦ (elim (eq-zero-or-pos (count z (from (suc i) n))) [ inl h ↦ omega arith | inr h ↦ omega (arith, from_in z (suc i) n h) ])
  | inr e ↦ omega (arith, from_le z (suc i) n)
]

pub from_pos : (z i n : ℕ) → i ≤ z → z < i + n → 0 < count z (from i n)
unfolding count from
from_pos z i zero h l = omega arith
from_pos z i (suc n) h l = elim (one_cases z i) [ inl e ↦ omega arith | inr e ↦ omega (arith, from_pos z (suc i) n (omega arith) (omega arith)) ]

-- ---- double counting

count_sum : (h : ℕ) (t js : List ℕ) → sum (map (λ j. count j (h ∷ t)) js) ≡ count h js + sum (map (λ j. count j t) js)
unfolding count sum
count_sum h t [] = refl
count_sum h t (j ∷ js) = omega (arith, count_sum h t js, one_sym j h)

pub double : (ys js : List ℕ) → sum (map (λ j. count j ys) js) ≡ sum (map (λ y. count y js) ys)
unfolding count sum
double [] [] = refl
double [] (j ∷ js) = omega (arith, double [] js)
double (y ∷ ys) js = omega (arith, count_sum y ys js, double ys js)

pub sum_map_le : (f : ℕ → ℕ) (ys : List ℕ) → ((y : ℕ) → f y ≤ 1) → sum (map f ys) ≤ length ys
unfolding sum
sum_map_le f [] h = omega arith
sum_map_le f (y ∷ ys) h = omega (arith, h y, sum_map_le f ys h)

-- over the numbers from i on
pub sum_map_ones : (f : ℕ → ℕ) (i n : ℕ) → ((y : ℕ) → i ≤ y → y < i + n → f y ≡ 1) → sum (map f (from i n)) ≡ n
unfolding sum from
sum_map_ones f i zero h = refl
sum_map_ones f i (suc n) h = omega (arith, h i (omega arith) (omega arith), sum_map_ones f (suc i) n (λ y l u. h y (omega arith) (omega arith)))

pub length_from : (i n : ℕ) → length (from i n) ≡ n
unfolding from
length_from i zero = refl
length_from i (suc n) = ap suc (length_from (suc i) n)
