-- The numbers of jobs left, and one of them less one.
-- Assumes nothing.
use mathlib.Core.List.{List, [], ◌∷◌}
use mathlib.Core.Logic.{inl, inr}
use mathlib.Core.Path.{◌≡◌, refl, ap}
use Prim.Native.Nat.{ℕ, zero, suc, pred, ◌+◌, ◌-◌, ◌≤◌, ◌<◌}
use native.Mathlib.Nat.{suc-mul}
use native.Mathlib.Omega.{arith}
use lib.ListN.{length, get_or, take, set, length-set}
use lib.Seq.{get_or-take, get_or-set_same, get_or-set_other}
use Rattle.sequencing.specs.Lists.{at, sum, weigh, one}
use Rattle.sequencing.specs.States.{complete}
use Rattle.sequencing.proofs.Counting.{one_cases}

-- the element at x, counted from 0
pub at_minus : (xs : List ℕ) (x : ℕ) → 1 ≤ x → at xs x ≡ get_or xs (x - 1) 0
at_minus xs zero h = absurd (omega arith)
at_minus xs (suc i) h = ap (λ (n : ℕ). get_or xs n 0) (omega arith)

pub at_take : (n : ℕ) (xs : List ℕ) (x : ℕ) → x ≤ n → at (take n xs) x ≡ at xs x
at_take n xs zero h = refl
at_take n xs (suc i) h = get_or-take n xs i 0 h

set_sum : (k : List ℕ) (i : ℕ) → 0 < get_or k i 0 → suc (sum (set k i (pred (get_or k i 0)))) ≡ sum k
unfolding sum
set_sum [] i h = omega arith
set_sum (c ∷ cs) zero h = omega arith
set_sum (c ∷ cs) (suc i) h = omega (arith, set_sum cs i h)

pub complete_sum : (k : List ℕ) (x : ℕ) → 0 < at k x → suc (sum (complete k x)) ≡ sum k
complete_sum k zero h = omega arith
complete_sum k (suc i) h = set_sum k i h

set_weigh : (f : ℕ → ℕ) (k : List ℕ) (i : ℕ) → 0 < get_or k i 0 → f (suc i) + weigh f (set k i (pred (get_or k i 0))) ≡ weigh f k
unfolding weigh
set_weigh f [] i h = omega arith
set_weigh f (zero ∷ cs) zero h = omega arith
set_weigh f (suc c ∷ cs) zero h = omega (arith, suc-mul c (f 1))
set_weigh f (c ∷ cs) (suc i) h = omega (arith, set_weigh (λ j. f (suc j)) cs i h)

pub complete_weigh : (f : ℕ → ℕ) (k : List ℕ) (x : ℕ) → 0 < at k x → f x + weigh f (complete k x) ≡ weigh f k
complete_weigh f k zero h = omega arith
complete_weigh f k (suc i) h = set_weigh f k i h

pub at_sum : (k : List ℕ) (j : ℕ) → at k j ≤ sum k
unfolding sum
at_sum k zero = omega arith
at_sum [] (suc i) = omega arith
at_sum (c ∷ cs) (suc zero) = omega arith
at_sum (c ∷ cs) (suc (suc i)) = omega (arith, at_sum cs (suc i))

get_d_in : (k : List ℕ) (i : ℕ) → 0 < get_or k i 0 → i < length k
get_d_in [] i h = omega arith
get_d_in (c ∷ cs) zero h = omega arith
get_d_in (c ∷ cs) (suc i) h = omega (arith, get_d_in cs i h)

pub at_in : (k : List ℕ) (x : ℕ) → 0 < at k x → (1 ≤ x) × (x ≤ length k)
at_in k zero h = omega arith
at_in k (suc i) h = omega (arith, get_d_in k i h)

pub complete_length : (k : List ℕ) (x : ℕ) → length (complete k x) ≡ length k
complete_length k zero = refl
complete_length k (suc i) = length-set k i _

pub at_complete : (k : List ℕ) (x j : ℕ) → 0 < at k x → at (complete k x) j + one j x ≡ at k j
at_complete k zero j h = omega arith
at_complete k (suc i) zero h = elim (one_cases 0 (suc i)) [ inl e ↦ omega arith | inr e ↦ omega arith ]
at_complete k (suc i) (suc j) h =
    elim (one_cases (suc j) (suc i)) [
      | inl e ↦ (let q : j ≡ i = omega arith in
          omega (arith, get_or-set_same k i (pred (get_or k i 0)) 0 (get_d_in k i h), ap (λ y. get_or (set k i (pred (get_or k i 0))) y 0) q, ap (λ y. get_or k y 0) q))
      | inr e ↦ omega (arith, get_or-set_other k i j (pred (get_or k i 0)) 0 (omega arith))
    ]

pub sum_none : (k : List ℕ) → ((j : ℕ) → at k j ≡ 0) → sum k ≡ 0
unfolding sum
sum_none [] h = refl
sum_none (c ∷ cs) h = omega (arith, h 1, sum_none cs (elim [ zero ↦ refl | suc j ↦ h (suc (suc j)) ]))

-- what holds kind by kind holds of the kinds after the first
pub after : (a c : ℕ) (k cs : List ℕ) → ((j : ℕ) → at (a ∷ k) j ≤ at (c ∷ cs) j) → (j : ℕ) → at k j ≤ at cs j
after a c k cs h zero = omega arith
after a c k cs h (suc j) = h (suc (suc j))

pub sum_mono : (k l : List ℕ) → length k ≡ length l → ((j : ℕ) → at k j ≤ at l j) → sum k ≤ sum l
unfolding sum
sum_mono [] l e h = omega arith
sum_mono (c ∷ cs) [] e h = omega arith
sum_mono (c ∷ cs) (d ∷ ds) e h = omega (arith, h 1, sum_mono cs ds (omega arith) (after c d cs ds h))

pub weigh_none : (f : ℕ → ℕ) (k : List ℕ) → sum k ≡ 0 → weigh f k ≡ 0
unfolding sum weigh
weigh_none f [] e = refl
weigh_none f (zero ∷ cs) e = omega (arith, weigh_none (λ j. f (suc j)) cs (omega arith))
weigh_none f (suc c ∷ cs) e = absurd (omega arith)
