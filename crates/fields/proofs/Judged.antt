-- What a judged number is.
-- Assumes nothing.
use Prim.Native.Nat.{ℕ, ◌<◌, ◌≤◌}
use mathlib.Core.Path.{◌≡◌, refl, ◌∙◌}
use mathlib.Core.Bool.{Bool, true, false, cond, ◌&&◌, false≢true}
use mathlib.Core.Logic.{inl, inr}
use mathlib.Core.List.{List}
use lib.Dec.{leb}
use borrow.Author.Tests.{le-leb, lt-leb, leb-true}
use Rattle.refusal.specs.declared.Reason.{Reason}
use Rattle.number.specs.Readers.{found, refused}
use Rattle.number.specs.Numbers.{number}
use Rattle.number.proofs.Steps.{went_on, passed, found_value, bool_cases}
use Rattle.fields.specs.Fields.{field, within}

pub and_true : (a b : Bool) → a && b ≡ true → (a ≡ true) × (b ≡ true)
and_true true b e = (refl, e)
and_true false b e = absurd (false≢true e)

pub within_true : (low high v : ℕ) → within low high v ≡ true → (low ≤ v) × (v ≤ high)
within_true low high v e = let q = and_true (leb low v) (leb v high) e in (leb-true low v q.0, leb-true v high q.1)

pub true_within : (low high v : ℕ) → low ≤ v → v ≤ high → within low high v ≡ true
true_within low high v l u = rw (le-leb low v l, le-leb v high u)

pub high_out : (low high v : ℕ) → high < v → within low high v ≡ false
high_out low high v l = elim (bool_cases (leb low v)) [ inl e ↦ rw (e, lt-leb v high l) | inr e ↦ rw e ]

-- a judged number that was found was read, and passes
pub field_found : (g : ℕ) (ok : ℕ → Bool) (why : Reason) (s : List ℕ) (at v n : ℕ) → field g ok why s at ≡ found v n
    → (number g s at ≡ found v n) × (ok v ≡ true)
field_found g ok why s at v n e =
    let (w, m, f, p) = went_on (number g s at) (λ w m. cond (ok w) (found w m) (refused why)) v n e in
    let q = passed (ok w) (found w m) why v n p in
    let same = found_value w v m n q.1 in
    (f ∙ q.1, rw same at q.0)

-- and the other way round
pub found_field : (g : ℕ) (ok : ℕ → Bool) (why : Reason) (s : List ℕ) (at v n : ℕ) → number g s at ≡ found v n → ok v ≡ true
    → field g ok why s at ≡ found v n
found_field g ok why s at v n e t = rw (e, t)
