-- What a step of a reader found, taken apart.
-- Assumes nothing.
use Prim.Native.Nat.{ℕ, ◌<◌, ◌≤◌}
use mathlib.Core.Path.{◌≡◌, refl}
use mathlib.Core.Bool.{Bool, true, false, cond}
use mathlib.Core.Logic.{◌⊎◌, inl, inr}
use lib.Dec.{ltb}
use borrow.Author.Tests.{ltb-true, ltb-false}
use native.Mathlib.Omega.{arith}
use Rattle.refusal.specs.declared.Reason.{Reason}
use Rattle.number.specs.Readers.{Found, found, refused, and_then}

pub bool_cases : (b : Bool) → (b ≡ true) ⊎ (b ≡ false)
bool_cases true = inl refl
bool_cases false = inr refl

pub below_or_not : (v b : ℕ) → (v < b) ⊎ (b ≤ v)
below_or_not v b = elim (bool_cases (ltb v b)) [ inl e ↦ inl (ltb-true v b e) | inr e ↦ inr (ltb-false v b e) ]

pub found_value : {A : Type 0} (a b : A) (m n : ℕ) → found a m ≡ found b n → a ≡ b
found_value a b m n e = cc

pub found_next : {A : Type 0} (a b : A) (m n : ℕ) → found a m ≡ found b n → m ≡ n
found_next a b m n e = cc

pub not_found : {A B : Type 0} (r : Reason) (a : A) (n : ℕ) → refused r ≡ found a n → B
not_found r a n e = let z : ◌≡◌ {A = ℕ} 0 1 = cc in absurd (omega arith)

pub not_refused : {A B : Type 0} (r : Reason) (a : A) (n : ℕ) → found a n ≡ refused r → B
not_refused r a n e = let z : ◌≡◌ {A = ℕ} 0 1 = cc in absurd (omega arith)

-- a reading that went on after a step has found that step's value
pub went_on : {A B : Type 0} (f : Found A) (next : A → ℕ → Found B) (b : B) (m : ℕ) → and_then f next ≡ found b m
    → (a : A) × (n : ℕ) × (f ≡ found a n) × (next a n ≡ found b m)
went_on (found a n) next b m e = (a, n, refl, e)
went_on (refused r) next b m e = not_found r b m e

-- a judgement that was passed
pub passed : {A : Type 0} (ok : Bool) (f : Found A) (r : Reason) (a : A) (n : ℕ) → cond ok f (refused r) ≡ found a n → (ok ≡ true) × (f ≡ found a n)
passed true f r a n e = (refl, e)
passed false f r a n e = not_found r a n e
