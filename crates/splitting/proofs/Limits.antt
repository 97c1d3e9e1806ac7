-- How large the cost of a split can be: no larger than that of one cutter's plan.
-- Assumes nothing.
use mathlib.Core.List.{List}
use mathlib.Core.Logic.{inl, inr}
use mathlib.Core.Option.{some}
use mathlib.Core.Path.{◌≡◌}
use mathlib.Mathlib.Data.Bool.Basic.{dichotomy}
use Prim.Native.Nat.{ℕ, zero, suc, ◌+◌, ◌*◌, ◌≤◌, ◌<◌}
use native.Mathlib.Nat.{add-mul, mul-le-mul_right}
use native.Mathlib.Omega.{arith}
use lib.Dec.{eqb}
use lib.ListN.{length-append, length-map}
use Rattle.sequencing.specs.Lists.{count}
use Rattle.sequencing.specs.Problem.{Problem, T, kind, Proper}
use Rattle.sequencing.specs.Recursion.{plan_cost}
use Rattle.sequencing.specs.Limits.{Limits, triangle}
use Rattle.sequencing.proofs.AllJobs.{sum_all}
use Rattle.sequencing.proofs.Bounds.{plan_le}
use Rattle.splitting.specs.Splits.{of_both}
use Rattle.splitting.specs.Shares.{share, first_share, second_share}
use Rattle.splitting.specs.Taken.{counts_cost}
use Rattle.splitting.proofs.Shares.{share_proper}
use Rattle.splitting.proofs.Counts.{together_split, shares_together, in_shares}
use Rattle.splitting.proofs.Best.{counts_are}

both_most : (goal a b : ℕ) → of_both goal a b ≤ a + b
both_most goal a b = elim (dichotomy (eqb goal 1)) [ inr e ↦ rw e (omega arith) | inl e ↦ rw e (omega arith) ]

triangle_add : (m n : ℕ) → triangle m + triangle n ≤ triangle (m + n)
unfolding triangle
triangle_add zero n = let e : 0 + n ≡ n = omega arith in rw e (omega arith)
triangle_add (suc m) n = let e : suc m + n ≡ suc (m + n) = omega arith in rw e (omega (arith, triangle_add m n))

module _ (P : Problem) (proper : Proper P) (g w : ℕ) (b : Limits P g w) where
  -- a share's plan costs at most w × g × (1 + 2 + .. + its jobs)
  share_le : (s : ℕ) (js : List ℕ) → s ≤ P.N → ((z : ℕ) → 0 < count z js → (1 ≤ z) × (z ≤ T P)) → (c : ℕ) → plan_cost (share P s js) ≡ some c
      → c ≤ triangle (T (share P s js)) * (w * g)
  share_le s js h among c e =
      let Q = share P s js in
      let l : Limits Q g w = record { start = h; gaps = b.gaps; weights = b.weights; positive = b.positive } in
      rw (sum_all Q (share_proper P s js proper among)) at (plan_le Q g w l c e)

  -- and the split at most as if all jobs were one cutter's
  pub counts_le : (s : ℕ) → s ≤ P.N → (n : List ℕ) (c : ℕ) → counts_cost P s n ≡ some c → c ≤ triangle (T P) * (w * g)
  counts_le s h n c e =
      let long = simp length-append at (together_split P (first_share P n) (second_share P n) (shares_together P n)).whole in
      let (x, y, p, q, is) = counts_are P s n c e in
      let u = share_le P.start (first_share P n) b.start (λ z i. in_shares P n z (omega arith)) x p in
      let v = share_le s (second_share P n) h (λ z i. in_shares P n z (omega arith)) y q in
      let m : ℕ = T (share P P.start (first_share P n)) in
      let k : ℕ = T (share P s (second_share P n)) in
      let all : m + k ≡ T P = omega (arith, long, length-map (first_share P n) (kind P), length-map (second_share P n) (kind P)) in
      omega (
        arith,
        u,
        v,
        is,
        both_most P.goal x y,
        add-mul (triangle m) (triangle k) (w * g),
        mul-le-mul_right {m = triangle m + triangle k} {n = triangle (T P)} (w * g) (rw all at (triangle_add m k)),
      )
