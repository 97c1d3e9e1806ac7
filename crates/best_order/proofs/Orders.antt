-- An order's jobs are 1 to T, and none stands at two places.
-- Assumes nothing.
use Prim.Native.Nat.{ℕ, zero, suc, ◌≤◌, ◌<◌}
use mathlib.Core.List.{List, [], ◌∷◌}
use mathlib.Core.Path.{◌≡◌, sym}
use native.Mathlib.Omega.{arith}
use lib.ListN.{length, get_or}
use Rattle.sequencing.specs.Lists.{count}
use Rattle.sequencing.specs.Problem.{Problem, T}
use Rattle.sequencing.specs.Orders.{IsOrder}
use Rattle.sequencing.proofs.Counting.{one_self, count_at, from_in, from_le}
use Rattle.sequencing.proofs.Orders.{order_counts}

count_twice : (xs : List ℕ) (a b : ℕ) → a < b → b < length xs → get_or xs a 0 ≡ get_or xs b 0 → 1 < count (get_or xs a 0) xs
unfolding count
count_twice [] a b l h e = absurd (omega arith)
count_twice (x ∷ xs) a zero l h e = absurd (omega arith)
count_twice (x ∷ xs) zero (suc b) l h e =
    let again : 0 < count x xs = rw (sym e) at (count_at xs b (omega arith)) in
    omega (arith, one_self x, again)
count_twice (x ∷ xs) (suc a) (suc b) l h e = omega (arith, count_twice xs a b (omega arith) (omega arith) e)

module _ (P : Problem) (o : List ℕ) (is : IsOrder P o) where
  pub order_in : (a : ℕ) → a < length o → (1 ≤ get_or o a 0) × (get_or o a 0 ≤ T P)
  order_in a h =
      let i = from_in (get_or o a 0) 1 (T P) (omega (arith, order_counts P o is (get_or o a 0), count_at o a h)) in
      (i.0, omega (arith, i.1))

  pub order_once : (a b : ℕ) → a < b → b < length o → get_or o a 0 ≡ get_or o b 0 → ⊥
  order_once a b l h e =
      omega (arith, count_twice o a b l h e, order_counts P o is (get_or o a 0), from_le (get_or o a 0) 1 (T P))
