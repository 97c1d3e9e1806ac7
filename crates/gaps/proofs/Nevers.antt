-- Whether any gap of an array is never: what a look for it finds, and what it says of each.
-- Assumes nothing.
use Prim.Native.Nat.{ℕ, zero, suc}
use mathlib.Core.Bool.{Bool, true, false, ◌||◌}
use mathlib.Core.List.{List, [], ◌∷◌}
use mathlib.Core.Logic.{◌≢◌}
use mathlib.Core.Path.{◌≡◌, refl, sym, ap, ◌∙◌}
use native.Mathlib.Omega.{arith}
use lib.Dec.{eqb}
use lib.ListN.{get_or}
use borrow.Author.Tests.{eq-eqb}
use Rattle.std.specs.List.{list_any}
use Rattle.std.specs.Prelude.{nat_eq}
use Rattle.gaps.specs.Gaps.{has_never}

-- a look for never
pub found_never : (gaps : List ℕ) → has_never gaps ≡ list_any (λ g. nat_eq g 65536) gaps
unfolding has_never
found_never [] = refl
found_never (g ∷ gaps) = ap (λ b. eqb g 65536 || b) (found_never gaps)

false_true : false ≡ true → ⊥
false_true e = let z : ◌≡◌ {A = ℕ} 0 1 = cc in omega arith

-- where none is, no number of the array is
pub none_never : (gaps : List ℕ) (i : ℕ) → has_never gaps ≡ false → get_or gaps i 0 ≢ 65536
unfolding has_never
none_never [] i e h = omega arith
none_never (g ∷ gaps) zero e h = false_true (sym e ∙ rw (eq-eqb g 65536 h) refl)
none_never (g ∷ gaps) (suc i) e h = none_never gaps i (rest (eqb g 65536) (has_never gaps) e) h
  where
    rest : (a b : Bool) → (a || b) ≡ false → b ≡ false
    rest true b q = absurd (false_true (sym q))
    rest false b q = q
