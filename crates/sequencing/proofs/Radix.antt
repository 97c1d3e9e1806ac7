-- An index and its digits undo one another, and one job less is its stride less.
-- Assumes nothing.
use mathlib.Core.List.{List, [], ◌∷◌, ◌++◌}
use mathlib.Core.Path.{◌≡◌, refl, sym, ap, ap₂, ◌∙◌}
use Prim.Native.Nat.{ℕ, zero, suc, pred, ◌+◌, ◌*◌, ◌/◌, ◌%◌, ◌≤◌, ◌<◌}
use native.Mathlib.Nat.{one-mul, mul-one, suc-mul, mul-suc, mul_comm, mul_assoc, mul-add, mul-le-mul_left, mod-lt, mod-add-div, mod-eq_of_lt, div-eq_of_lt, div-lt_iff_lt-mul, add-mul-div_left, add-mul-mod_self_left}
use native.Mathlib.Omega.{arith}
use lib.ListN.{length, get_or, set}
use Rattle.sequencing.specs.Lists.{at}
use Rattle.sequencing.specs.States.{complete}
use Rattle.sequencing.specs.Entries.{size, index, digits, stride}
use Rattle.sequencing.proofs.Vectors.{after}

pub size_pos : (cs : List ℕ) → 0 < size cs
unfolding size
size_pos [] = omega arith
size_pos (c ∷ cs) = omega (arith, suc-mul c (size cs), size_pos cs)

-- one number more
pub size_more : (xs : List ℕ) (x : ℕ) → size (xs ++ (x ∷ [])) ≡ size xs * suc x
unfolding size
size_more [] x = rw (mul-one, one-mul)
size_more (c ∷ cs) x = rw (size_more cs x) (sym (mul_assoc (suc c) (size cs) (suc x)))

pub index_in : (cs k : List ℕ) → length k ≡ length cs → ((j : ℕ) → at k j ≤ at cs j) → index cs k < size cs
unfolding index size
index_in [] k e h = omega arith
index_in (c ∷ cs) [] e h = absurd (omega arith)
index_in (c ∷ cs) (a ∷ k) e h = omega (arith, h 1, mul-le-mul_left (suc c) (index_in cs k (omega arith) (after a c k cs h)), mul-suc (suc c) (index cs k))

pub digits_index : (cs k : List ℕ) → length k ≡ length cs → ((j : ℕ) → at k j ≤ at cs j) → digits cs (index cs k) ≡ k
unfolding index digits
digits_index [] [] e h = refl
digits_index [] (a ∷ k) e h = absurd (omega arith)
digits_index (c ∷ cs) [] e h = absurd (omega arith)
digits_index (c ∷ cs) (a ∷ k) e h =
    let l : a < suc c = omega (arith, h 1) in
    let rest : (a + suc c * index cs k) / suc c ≡ index cs k = omega (arith, add-mul-div_left a (index cs k) {y = suc c} (omega arith), div-eq_of_lt l) in
    ap₂ ◌∷◌ (add-mul-mod_self_left a (suc c) (index cs k) ∙ mod-eq_of_lt l) (ap (digits cs) rest ∙ digits_index cs k (omega arith) (after a c k cs h))

pub index_digits : (cs : List ℕ) (i : ℕ) → i < size cs → index cs (digits cs i) ≡ i
unfolding size index digits
index_digits [] i h = omega arith
index_digits (c ∷ cs) i h =
    ap (λ n. i % suc c + suc c * n) (index_digits cs (i / suc c) ((div-lt_iff_lt-mul {k = suc c} {x = i} {y = size cs} (omega arith)).1 (rw (mul_comm (suc c) (size cs)) at h)))
    ∙ mod-add-div i (suc c)

pub digits_length : (cs : List ℕ) (i : ℕ) → length (digits cs i) ≡ length cs
unfolding digits
digits_length [] i = refl
digits_length (c ∷ cs) i = ap suc (digits_length cs (i / suc c))

pub digits_le : (cs : List ℕ) (i j : ℕ) → at (digits cs i) j ≤ at cs j
unfolding digits
digits_le cs i zero = omega arith
digits_le [] i (suc j) = omega arith
digits_le (c ∷ cs) i (suc zero) = omega (arith, mod-lt i {m = suc c} (omega arith))
digits_le (c ∷ cs) i (suc (suc j)) = digits_le cs (i / suc c) (suc j)

index_set : (cs k : List ℕ) (i : ℕ) → length k ≡ length cs → 0 < get_or k i 0 → index cs (set k i (pred (get_or k i 0))) + stride cs (suc i) ≡ index cs k
unfolding index stride
index_set cs [] i e h = absurd (omega arith)
index_set [] (a ∷ k) i e h = absurd (omega arith)
index_set (c ∷ cs) (a ∷ k) zero e h = omega arith
index_set (c ∷ cs) (a ∷ k) (suc i) e h = rw (← (index_set cs k i (omega arith) h), mul-add) (omega arith)

pub index_complete : (cs k : List ℕ) (x : ℕ) → length k ≡ length cs → 0 < at k x → index cs (complete k x) + stride cs x ≡ index cs k
index_complete cs k zero e h = absurd (omega arith)
index_complete cs k (suc i) e h = index_set cs k i e h

pub stride_pos : (cs : List ℕ) (x : ℕ) → 1 ≤ x → x ≤ length cs → 0 < stride cs x
unfolding stride
stride_pos cs zero l u = absurd (omega arith)
stride_pos [] (suc i) l u = absurd (omega arith)
stride_pos (c ∷ cs) (suc zero) l u = omega arith
stride_pos (c ∷ cs) (suc (suc i)) l u = omega (arith, suc-mul c (stride cs (suc i)), stride_pos cs (suc i) (omega arith) (omega arith))
