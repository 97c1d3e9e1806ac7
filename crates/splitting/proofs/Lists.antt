-- Lists of numbers: reading a list by its numbers, counting through a map, and cutting an ascending list in two.
-- Assumes nothing.
use mathlib.Core.Bool.{Bool, not}
use mathlib.Core.List.{List, [], ◌∷◌, ◌++◌, map}
use mathlib.Core.Logic.{inl, inr}
use mathlib.Core.Path.{◌≡◌, refl, sym, ap, ◌∙◌}
use mathlib.Mathlib.Data.Bool.Basic.{dichotomy}
use Prim.Native.Nat.{ℕ, zero, suc, ◌+◌, ◌≤◌, ◌<◌}
use native.Mathlib.Omega.{arith}
use lib.Dec.{T as Is, leb, leb→le, nleb→lt}
use lib.ListN.{length, get_or, take, drop, length-map, get_or-map}
use lib.Seq.{ext_get_or, get_or-drop}
use Rattle.sequencing.specs.Lists.{at, upto, filter, one, count}
use Rattle.sequencing.proofs.Counting.{one_cases, one_self, length_from}
use Rattle.sequencing.proofs.AllJobs.{get_d_map_from}
use Rattle.sequencing.proofs.Ascending.{Asc}

pub at_map : (f : ℕ → ℕ) → f 0 ≡ 0 → (xs : List ℕ) (i : ℕ) → at (map f xs) i ≡ f (at xs i)
at_map f e xs zero = sym e
at_map f e xs (suc i) = ap (get_or (map f xs) i) (sym e) ∙ get_or-map f xs i 0

pub at_drop : (r : ℕ) (xs : List ℕ) (i j : ℕ) → 1 ≤ i → j ≡ r + i → at (drop r xs) i ≡ at xs j
at_drop r xs zero j h e = absurd (omega arith)
at_drop r xs (suc i) j h e = let q : j ≡ suc (r + i) = omega arith in get_or-drop r xs i 0 ∙ ap (at xs) (sym q)

-- the elements at 1, 2, .. are the list
pub map_at : (xs : List ℕ) → map (at xs) (upto (length xs)) ≡ xs
map_at xs =
    let l = length-map (upto (length xs)) (at xs) ∙ length_from 1 (length xs) in
    ext_get_or 0 (map (at xs) (upto (length xs))) xs l
    (λ i h. let e : 1 + i ≡ suc i = omega arith in get_d_map_from (at xs) 1 (length xs) i 0 (omega arith) ∙ ap (at xs) e)

-- lists from 1 on are equal where each element is
pub same_at : (k l : List ℕ) → length k ≡ length l → ((j : ℕ) → 1 ≤ j → j ≤ length k → at k j ≡ at l j) → k ≡ l
same_at k l e h = ext_get_or 0 k l e (λ i u. h (suc i) (omega arith) (omega arith))

pub map_filter : (f : ℕ → ℕ) (p : ℕ → Bool) (xs : List ℕ) → map f (filter (λ i. p (f i)) xs) ≡ filter p (map f xs)
unfolding filter
map_filter f p [] = refl
map_filter f p (x ∷ xs) = elim (dichotomy (p (f x))) [
  | inr e ↦ rw e (ap (λ t. f x ∷ t) (map_filter f p xs))
  | inl e ↦ rw e (map_filter f p xs)
]

-- two tests one after the other, in either order, where the one is p' for what passes the other
pub filter_filter : (p p' q : ℕ → Bool) → ((i : ℕ) → Is (q i) → p i ≡ p' i) → (xs : List ℕ) → filter q (filter p xs) ≡ filter p' (filter q xs)
unfolding filter
filter_filter p p' q h [] = refl
filter_filter p p' q h (x ∷ xs) = elim (dichotomy (q x)) [
  | inr e ↦ rw (e, ← (h x (rw e tt))) (elim (dichotomy (p x)) [
    | inr d ↦ rw (d, e) (ap (λ t. x ∷ t) (filter_filter p p' q h xs))
    | inl d ↦ rw d (filter_filter p p' q h xs)
  ])
  | inl e ↦ rw e (elim (dichotomy (p x)) [ inr d ↦ rw (d, e) (filter_filter p p' q h xs) | inl d ↦ rw d (filter_filter p p' q h xs) ])
]

-- ---- counts

pub count_append : (z : ℕ) (xs ys : List ℕ) → count z (xs ++ ys) ≡ count z xs + count z ys
unfolding count
count_append z [] ys = omega arith
count_append z (x ∷ xs) ys = omega (arith, count_append z xs ys)

-- what passes a test and what does not
pub count_parts : (p : ℕ → Bool) (z : ℕ) (xs : List ℕ) → count z (filter p xs) + count z (filter (λ i. not (p i)) xs) ≡ count z xs
unfolding count filter
count_parts p z [] = refl
count_parts p z (x ∷ xs) = elim (dichotomy (p x)) [
  | inr e ↦ rw e (omega (arith, count_parts p z xs))
  | inl e ↦ rw e (omega (arith, count_parts p z xs))
]

-- ys with one x less
record Without (f : ℕ → ℕ) (x : ℕ) (ys : List ℕ) : Type 0 where
  list : List ℕ
  counts : (z : ℕ) → count z ys ≡ one z x + count z list
  images : (z : ℕ) → count z (map f ys) ≡ one z (f x) + count z (map f list)

without : (f : ℕ → ℕ) (x : ℕ) (ys : List ℕ) → 0 < count x ys → Without f x ys
unfolding count
without f x [] h = absurd (omega arith)
without f x (y ∷ ys) h = elim (one_cases x y) [
  | inl e ↦ record { list = ys; counts = λ z. rw e.0 refl; images = λ z. rw e.0 refl }
  | inr e ↦ (let r = without f x ys (omega arith) in
      record { list = y ∷ r.list; counts = λ z. omega (arith, r.counts z); images = λ z. omega (arith, r.images z) })
]

-- lists that have each number equally often have each number equally often after a map
pub count_map : (f : ℕ → ℕ) (xs ys : List ℕ) → ((z : ℕ) → count z xs ≡ count z ys) → (z : ℕ) → count z (map f xs) ≡ count z (map f ys)
unfolding count
count_map f [] [] h z = refl
count_map f [] (y ∷ ys) h z = absurd (omega (arith, h y, one_self y))
count_map f (x ∷ xs) ys h z =
    let r = without f x ys (omega (arith, h x, one_self x)) in
    omega (arith, r.images z, count_map f xs r.list (λ i. omega (arith, h i, r.counts i)) z)

length_count : (xs : List ℕ) → count 0 (map (λ x. 0) xs) ≡ length xs
unfolding count
length_count [] = refl
length_count (x ∷ xs) = omega (arith, length_count xs, one_self 0)

-- and are equally long
pub count_length : (xs ys : List ℕ) → ((z : ℕ) → count z xs ≡ count z ys) → length xs ≡ length ys
count_length xs ys h = sym (length_count xs) ∙ count_map (λ x. 0) xs ys h 0 ∙ length_count ys

-- ---- an ascending list, cut after its element at r

above : (b v : ℕ) (xs : List ℕ) → v ≤ b → Asc b xs → (filter (λ i. leb i v) xs ≡ []) × (filter (λ i. not (leb i v)) xs ≡ xs)
unfolding filter Asc
above b v [] h a = (refl, refl)
above b v (x ∷ xs) h a = elim (dichotomy (leb x v)) [
  | inr e ↦ absurd (omega (arith, leb→le x v (rw e tt)))
  | inl e ↦ rw e (let r = above x v xs (omega arith) a.1 in (r.0, ap (λ t. x ∷ t) r.1))
]

low : (b r : ℕ) (xs : List ℕ) → Asc b xs → r < length xs → b < get_or xs r 0
unfolding Asc
low b r [] a h = absurd (omega arith)
low b zero (x ∷ xs) a h = a.0
low b (suc r) (x ∷ xs) a h = omega (arith, low x r xs a.1 (omega arith))

pub cut : (b r : ℕ) (xs : List ℕ) → Asc b xs → r ≤ length xs
    → (filter (λ i. leb i (at xs r)) xs ≡ take r xs) × (filter (λ i. not (leb i (at xs r))) xs ≡ drop r xs)
unfolding filter Asc
cut b zero xs a h = above b 0 xs (omega arith) a
cut b (suc r) [] a h = absurd (omega arith)
cut b (suc zero) (x ∷ xs) a h = elim (dichotomy (leb x x)) [
  | inr e ↦ rw e (let q = above x x xs (omega arith) a.1 in (ap (λ t. x ∷ t) q.0, q.1))
  | inl e ↦ absurd (omega (arith, nleb→lt x x (rw e tt)))
]
cut b (suc (suc r)) (x ∷ xs) a h = elim (dichotomy (leb x (get_or xs r 0))) [
  | inr e ↦ rw e (let q = cut x (suc r) xs a.1 (omega arith) in (ap (λ t. x ∷ t) q.0, q.1))
  | inl e ↦ absurd (omega (arith, nleb→lt x (get_or xs r 0) (rw e tt), low x r xs a.1 (omega arith)))
]
