-- Sums of f over i, i + 1, ..: of one number, counted from elsewhere, and times a number.
-- Assumes nothing.
use mathlib.Core.List.{map}
use mathlib.Core.Path.{◌≡◌, refl}
use Prim.Native.Nat.{ℕ, zero, suc, pred, ◌*◌}
use native.Mathlib.Nat.{zero-mul, mul-zero, suc-mul, mul-add}
use native.Mathlib.Omega.{arith}
use Rattle.sequencing.specs.Lists.{from, sum}

-- n times the same
pub sum_const : (m i n : ℕ) → sum (map (λ j. m) (from i n)) ≡ n * m
unfolding sum from
sum_const m i zero = rw (zero-mul m) refl
sum_const m i (suc n) = rw (suc-mul n m) (omega (arith, sum_const m (suc i) n))

-- the terms counted from 1
pub sum_pred : (g : ℕ → ℕ) (i n : ℕ) → sum (map (λ j. g (pred j)) (from (suc i) n)) ≡ sum (map g (from i n))
unfolding sum from
sum_pred g i zero = refl
sum_pred g i (suc n) = omega (arith, sum_pred g (suc i) n)

-- each term m times as large
pub sum_times : (m : ℕ) (f : ℕ → ℕ) (i n : ℕ) → sum (map (λ j. m * f j) (from i n)) ≡ m * sum (map f (from i n))
unfolding sum from
sum_times m f i zero = rw (mul-zero m) refl
sum_times m f i (suc n) = rw (mul-add m (f i) (sum (map f (from (suc i) n)))) (omega (arith, sum_times m f (suc i) n))
