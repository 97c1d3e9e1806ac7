-- The least over counts is a lower bound, is reached by the counts taken, and no counts before them reach it.
-- Assumes nothing.
use mathlib.Core.List.{List, [], ◌∷◌}
use mathlib.Core.Logic.{inl, inr}
use mathlib.Core.Option.{Option, some}
use mathlib.Core.Path.{◌≡◌, refl}
use Prim.Native.Nat.{ℕ, zero, suc, pred, ◌≤◌, ◌<◌}
use native.Mathlib.Omega.{arith}
use lib.ListN.{length}
use Rattle.sequencing.specs.Lists.{at}
use Rattle.sequencing.specs.Least.{arg_least}
use Rattle.sequencing.specs.Ties.{Precedes, Smallest}
use Rattle.sequencing.proofs.Counting.{one_cases}
use Rattle.sequencing.proofs.Vectors.{after}
use Rattle.sequencing.proofs.Options.{Upto, upto_some}
use Rattle.sequencing.proofs.Least.{least_upto, smallest}
use Rattle.splitting.specs.Taken.{least_cost, least_counts}

-- n has a count for each of cs, and none above it
pub record Within (cs n : List ℕ) : Type 0 where
  pub long : length n ≡ length cs
  pub each : (j : ℕ) → at n j ≤ at cs j

within_after : (a c : ℕ) (n cs : List ℕ) → Within (c ∷ cs) (a ∷ n) → Within cs n
within_after a c n cs w = record { long = omega arith; each = after a c n cs w.each }

within_cons : (a c : ℕ) (n cs : List ℕ) → a ≤ c → Within cs n → Within (c ∷ cs) (a ∷ n)
within_cons a c n cs h w = record {
  long = omega (arith, w.long);
  each = go;
}
  where
    go : (j : ℕ) → at (a ∷ n) j ≤ at (c ∷ cs) j
    go zero = omega arith
    go (suc zero) = h
    go (suc (suc i)) = w.each (suc i)

-- no counts cost less
pub least_below : (f : List ℕ → Option ℕ) (cs m : List ℕ) (d : ℕ) → Within cs m → Upto d (f m) → Upto d (least_cost f cs)
unfolding least_cost
least_below f [] [] d w u = u
least_below f [] (a ∷ m) d w u = absurd (omega arith)
least_below f (c ∷ cs) [] d w u = absurd (omega arith)
least_below f (c ∷ cs) (a ∷ m) d w u =
    least_upto (λ x. least_cost (λ n. f (pred x ∷ n)) cs) (suc c) (suc a) d (omega arith) (omega (arith, w.each 1))
    (least_below (λ n. f (a ∷ n)) cs m d (within_after a c m cs w) u)

-- the count of the first kind that is taken
module _ (f : List ℕ → Option ℕ) (c : ℕ) (cs : List ℕ) where
  abbrev by_first : ℕ → Option ℕ
  by_first x = least_cost (λ n. f (pred x ∷ n)) cs

  first_kind : (d : ℕ) → least_cost f (c ∷ cs) ≡ some d → Smallest by_first (suc c) (arg_least by_first (suc c)) d
  unfolding least_cost
  first_kind d e = smallest by_first (suc c) d e

-- the counts taken reach it
pub least_within : (f : List ℕ → Option ℕ) (cs : List ℕ) (d : ℕ) → least_cost f cs ≡ some d
    → Within cs (least_counts f cs) × (f (least_counts f cs) ≡ some d)
unfolding least_cost least_counts
least_within f [] d e = (record { long = refl; each = λ j. omega arith }, e)
least_within f (c ∷ cs) d e =
    let m = first_kind f c cs d e in
    let a : ℕ = pred (arg_least (by_first f c cs) (suc c)) in
    let r = least_within (λ n. f (a ∷ n)) cs d m.reached in
    (within_cons a c (least_counts (λ n. f (a ∷ n)) cs) cs (omega (arith, m.high)) r.0, r.1)

-- and come first
pub least_first : (f : List ℕ → Option ℕ) (cs m : List ℕ) (d : ℕ) → least_cost f cs ≡ some d → Within cs m → f m ≡ some d
    → Precedes (least_counts f cs) m
unfolding least_cost least_counts Precedes
least_first f [] [] d e w g = tt
least_first f [] (a ∷ m) d e w g = absurd (omega arith)
least_first f (c ∷ cs) [] d e w g = absurd (omega arith)
least_first f (c ∷ cs) (a ∷ m) d e w g =
    let s = first_kind f c cs d e in
    let x : ℕ = arg_least (by_first f c cs) (suc c) in
    let below = least_below (λ n. f (a ∷ n)) cs m d (within_after a c m cs w) (rw g (omega arith)) in
    let (b, q, u) = upto_some d (least_cost (λ n. f (a ∷ n)) cs) below in
    let same : b ≡ d = omega (arith, s.bound (suc a) b (omega arith) (omega (arith, w.each 1)) q) in
    let q' : least_cost (λ n. f (a ∷ n)) cs ≡ some d = rw (← same) q in
    let above : ¬ (suc a < x) = λ v. s.first (suc a) (omega arith) v q' in
    elim (one_cases x (suc a)) [
      | inl t ↦ inr (omega (arith, t.0), rw t.0 (least_first (λ n. f (a ∷ n)) cs m d q' (within_after a c m cs w) g))
      | inr t ↦ inl (omega (arith, s.low))
    ]
