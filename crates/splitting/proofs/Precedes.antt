-- Which of two counts comes first: an order, and what the test says of it.
-- Assumes nothing.
use mathlib.Core.Bool.{true, false}
use mathlib.Core.List.{List, [], ◌∷◌}
use mathlib.Core.Logic.{◌⊎◌, inl, inr}
use mathlib.Core.Path.{◌≡◌, refl, sym, ap₂, ◌∙◌}
use mathlib.Mathlib.Data.Bool.Basic.{dichotomy}
use Prim.Native.Nat.{ℕ, ◌<◌}
use native.Mathlib.Omega.{arith}
use lib.Dec.{ltb, ltb→lt, nltb→le, eqb, eqb→eq}
use lib.ListN.{length}
use Rattle.sequencing.specs.Ties.{Precedes}
use Rattle.sequencing.proofs.Counting.{one_cases}
use Rattle.splitting.specs.Scan.{is_before}

pub precedes_self : (a : List ℕ) → Precedes a a
unfolding Precedes
precedes_self [] = tt
precedes_self (x ∷ a) = inr (refl, precedes_self a)

pub precedes_trans : (a b c : List ℕ) → Precedes a b → Precedes b c → Precedes a c
unfolding Precedes
precedes_trans [] [] c p q = q
precedes_trans [] (y ∷ b) c p q = absurd p
precedes_trans (x ∷ a) [] c p q = absurd p
precedes_trans (x ∷ a) (y ∷ b) [] p q = absurd q
precedes_trans (x ∷ a) (y ∷ b) (z ∷ c) (inl p) (inl q) = inl (omega arith)
precedes_trans (x ∷ a) (y ∷ b) (z ∷ c) (inl p) (inr q) = inl (omega (arith, q.0))
precedes_trans (x ∷ a) (y ∷ b) (z ∷ c) (inr p) (inl q) = inl (omega (arith, p.0))
precedes_trans (x ∷ a) (y ∷ b) (z ∷ c) (inr p) (inr q) = inr (p.0 ∙ q.0, precedes_trans a b c p.1 q.1)

-- two that each come no later than the other are one
pub precedes_one : (a b : List ℕ) → Precedes a b → Precedes b a → a ≡ b
unfolding Precedes
precedes_one [] [] p q = refl
precedes_one [] (y ∷ b) p q = absurd p
precedes_one (x ∷ a) [] p q = absurd p
precedes_one (x ∷ a) (y ∷ b) (inl p) (inl q) = absurd (omega arith)
precedes_one (x ∷ a) (y ∷ b) (inl p) (inr q) = absurd (omega (arith, q.0))
precedes_one (x ∷ a) (y ∷ b) (inr p) (inl q) = absurd (omega (arith, p.0))
precedes_one (x ∷ a) (y ∷ b) (inr p) (inr q) = ap₂ ◌∷◌ p.0 (precedes_one a b p.1 q.1)

apart : (x y : ℕ) → eqb x y ≡ false → ltb x y ≡ false → y < x
apart x y q t = elim (one_cases x y) [ inl e ↦ absurd (omega (arith, rw q at e.1)) | inr e ↦ omega (arith, nltb→le x y (rw t tt)) ]

-- what the test says of counts that are equally long
pub before_cases : (a b : List ℕ) → length a ≡ length b → ((is_before a b ≡ true) × Precedes a b) ⊎ ((is_before a b ≡ false) × Precedes b a)
unfolding is_before Precedes
before_cases [] [] e = inr (refl, tt)
before_cases [] (y ∷ b) e = absurd (omega arith)
before_cases (x ∷ a) [] e = absurd (omega arith)
before_cases (x ∷ a) (y ∷ b) e = elim (dichotomy (eqb x y)) [
  | inr q ↦ rw q (let same : x ≡ y = eqb→eq x y (rw q tt) in
      elim (before_cases a b (omega arith)) [ inl r ↦ inl (r.0, inr (same, r.1)) | inr r ↦ inr (r.0, inr (sym same, r.1)) ])
  | inl q ↦ rw q (elim (dichotomy (ltb x y)) [
    | inr t ↦ inl (t, inl (ltb→lt x y (rw t tt)))
    | inl t ↦ inr (t, inl (apart x y q t))
  ])
]
