-- Sums of f over i, i + 1, .., in blocks and in either order.
-- Assumes nothing.
use mathlib.Core.List.{List, [], ◌∷◌, map}
use mathlib.Core.Path.{◌≡◌, refl, ap}
use Prim.Native.Nat.{ℕ, zero, suc, pred, ◌+◌, ◌*◌, ◌≤◌, ◌<◌}
use native.Mathlib.Nat.{add-zero, zero-add, suc-add, zero-mul, suc-mul}
use native.Mathlib.Numerals.{add-one}
use native.Mathlib.Omega.{arith}
use Rattle.sequencing.specs.Lists.{from, sum}

sum_start : (f : ℕ → ℕ) (n : ℕ) {i j : ℕ} → i ≡ j → sum (map f (from i n)) ≡ sum (map f (from j n))
sum_start f n e = ap (λ i. sum (map f (from i n))) e

-- m terms, and then n
sum_append : (f : ℕ → ℕ) (i m n : ℕ) → sum (map f (from i (m + n))) ≡ sum (map f (from i m)) + sum (map f (from (i + m) n))
unfolding sum from
sum_append f i zero n = rw (add-zero i, zero-add n) (omega arith)
sum_append f i (suc m) n = rw (suc-add m n) (omega (arith, sum_append f (suc i) m n, sum_start f n {i = suc i + m} {j = i + suc m} (omega arith)))

-- one term more
pub sum_more : (f : ℕ → ℕ) (i n : ℕ) → sum (map f (from i (suc n))) ≡ sum (map f (from i n)) + f (i + n)
unfolding sum from
sum_more f i n = omega (arith, rw add-one at (sum_append f i n 1))

pub sum_same : (f g : ℕ → ℕ) (i n : ℕ) → ((j : ℕ) → i ≤ j → j < i + n → f j ≡ g j) → sum (map f (from i n)) ≡ sum (map g (from i n))
unfolding sum from
sum_same f g i zero h = refl
sum_same f g i (suc n) h = omega (arith, h i (omega arith) (omega arith), sum_same f g (suc i) n (λ j l u. h j (omega arith) (omega arith)))

pub sum_most : (f : ℕ → ℕ) (m i n : ℕ) → ((j : ℕ) → i ≤ j → j < i + n → f j ≤ m) → sum (map f (from i n)) ≤ n * m
unfolding sum from
sum_most f m i zero h = omega arith
sum_most f m i (suc n) h = rw (suc-mul n m) (omega (arith, h i (omega arith) (omega arith), sum_most f m (suc i) n (λ j l u. h j (omega arith) (omega arith))))

-- ---- blocks

-- the terms counted from elsewhere
sum_shift : (f : ℕ → ℕ) (s i n : ℕ) → sum (map f (from (s + i) n)) ≡ sum (map (λ j. f (s + j)) (from i n))
unfolding sum from
sum_shift f s i zero = refl
sum_shift f s i (suc n) = omega (arith, sum_shift f s (suc i) n, sum_start f n {i = suc (s + i)} {j = s + suc i} (omega arith))

blocks_from : (f : ℕ → ℕ) (m l n : ℕ) → sum (map f (from (l * m) (n * m))) ≡ sum (map (λ L. sum (map (λ i. f (pred L * m + i)) (from 0 m))) (from (suc l) n))
unfolding sum from
blocks_from f m l zero = rw zero-mul refl
blocks_from f m l (suc n) =
    let here = sum_start f m {i = l * m} {j = l * m + 0} (omega arith) in
    let later = sum_start f (n * m) {i = l * m + m} {j = suc l * m} (omega (arith, suc-mul l m)) in
    let many : suc n * m ≡ m + n * m = omega (arith, suc-mul n m) in
    rw many (omega (arith, sum_append f (l * m) m (n * m), here, sum_shift f (l * m) 0 m, later, blocks_from f m (suc l) n))

-- m terms at a time: block L is the m terms from (L − 1) × m on
pub sum_blocks : (f : ℕ → ℕ) (m n : ℕ) → sum (map f (from 0 (n * m))) ≡ sum (map (λ L. sum (map (λ i. f (pred L * m + i)) (from 0 m))) (from 1 n))
sum_blocks f m n = rw zero-mul at (blocks_from f m 0 n)

-- ---- two sums, either of them within the other

sum_zero : (xs : List ℕ) → sum (map (λ x. 0) xs) ≡ 0
unfolding sum
sum_zero [] = refl
sum_zero (x ∷ xs) = omega (arith, sum_zero xs)

sum_add : (f g : ℕ → ℕ) (xs : List ℕ) → sum (map (λ x. f x + g x) xs) ≡ sum (map f xs) + sum (map g xs)
unfolding sum
sum_add f g [] = refl
sum_add f g (x ∷ xs) = omega (arith, sum_add f g xs)

pub sum_swap : (f : ℕ → ℕ → ℕ) (xs ys : List ℕ) → sum (map (λ x. sum (map (f x) ys)) xs) ≡ sum (map (λ y. sum (map (λ x. f x y) xs)) ys)
unfolding sum
sum_swap f [] ys = omega (arith, sum_zero ys)
sum_swap f (x ∷ xs) ys = omega (arith, sum_swap f xs ys, sum_add (f x) (λ y. sum (map (λ x. f x y) xs)) ys)
