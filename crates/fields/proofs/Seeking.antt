-- Whether a number stands in a list, by its places.
-- Assumes nothing.
use Prim.Native.Nat.{ℕ, zero, suc, ◌<◌}
use mathlib.Core.Path.{◌≡◌, refl, sym, ◌∙◌}
use mathlib.Core.Bool.{Bool, true, false, ◌||◌, false≢true}
use mathlib.Core.List.{List, [], ◌∷◌}
use native.Mathlib.Omega.{arith}
use lib.Dec.{eqb}
use lib.ListN.{length, get_or}
use borrow.Author.Tests.{eq-eqb, ne_eqb}
use Rattle.fields.specs.Lists.{stands_in}

or_false : (a b : Bool) → a || b ≡ false → (a ≡ false) × (b ≡ false)
or_false true b e = absurd (false≢true (sym e))
or_false false b e = (refl, e)

-- a number that does not stand in a list stands nowhere in it
pub stands_nowhere : (j : ℕ) (l : List ℕ) (k : ℕ) → stands_in j l ≡ false → k < length l → get_or l k 0 ≡ j → ⊥
unfolding stands_in
stands_nowhere j [] k e h q = omega arith
stands_nowhere j (i ∷ l) zero e h q = false≢true (sym (or_false (eqb j i) (stands_in j l) e).0 ∙ eq-eqb j i (sym q))
stands_nowhere j (i ∷ l) (suc k) e h q = stands_nowhere j l k (or_false (eqb j i) (stands_in j l) e).1 (omega arith) q

pub nowhere_stands : (j : ℕ) (l : List ℕ) → ((k : ℕ) → k < length l → get_or l k 0 ≡ j → ⊥) → stands_in j l ≡ false
unfolding stands_in
nowhere_stands j [] h = refl
nowhere_stands j (i ∷ l) h =
    rw (ne_eqb j i (λ q. h 0 (omega arith) (sym q)), nowhere_stands j l (λ k u q. h (suc k) (omega arith) q))
