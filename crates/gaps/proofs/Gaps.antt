-- Gaps: seconds or never, and the number that stands for either.
-- Assumes nothing.
use Prim.Native.Nat.{ℕ, ◌≤◌}
use mathlib.Core.Bool.{Bool, true, false, cond}
use mathlib.Core.Logic.{inl, inr, ◌↔◌, ◌≢◌}
use mathlib.Core.Path.{◌≡◌, refl, sym, ap, ◌∙◌}
use native.Mathlib.Nat.{eq-or-lt_of_le}
use native.Mathlib.Omega.{arith}
use lib.Dec.{eqb}
use borrow.Author.Tests.{eqb-true, ne_eqb}
use Rattle.units.specs.declared.Seconds.{Seconds}
use Rattle.gaps.specs.declared.Gap.{Gap}
use Rattle.gaps.specs.declared.Gap.TheVariants.{Lasting, Never}
use Rattle.gaps.specs.Gaps.{as_gap, seconds_of}

-- so many seconds
abbrev pub lasting : ℕ → Gap
lasting s = Lasting (record { 0 = s })

pub not_never : (s : Seconds) → Lasting s ≢ Never
not_never s e = let z : ◌≡◌ {A = ℕ} 0 1 = cc in omega arith

-- what is not never is its seconds
pub some_seconds : (g : Gap) → g ≢ Never → g ≡ lasting (seconds_of g)
some_seconds (Lasting s) h = refl
some_seconds Never h = absurd (h refl)

-- 02: a gap written as 65536 means never ..
pub gap_never : as_gap 65536 ≡ Never
gap_never = refl

-- .. and any other number is its seconds
pub gap_seconds : (g : ℕ) → g ≢ 65536 → as_gap g ≡ lasting g
gap_seconds g h = rw (ne_eqb g 65536 h) refl

-- so no gap up to 65536 has more than 65535 seconds
pub gap_le : (g : ℕ) → g ≤ 65536 → seconds_of (as_gap g) ≤ 65535
gap_le g h = elim (eq-or-lt_of_le h) [ inl e ↦ rw e (omega arith) | inr l ↦ rw (gap_seconds g (λ e. omega arith)) (omega arith) ]

only_never : (g : ℕ) (b : Bool) → cond b Never (lasting g) ≡ Never → b ≡ true
only_never g true e = refl
only_never g false e = absurd (not_never (record { 0 = g }) e)

-- so never is exactly 65536
pub never_is : (g : ℕ) → (as_gap g ≡ Never) ↔ (g ≡ 65536)
never_is g = ((λ e. eqb-true g 65536 (only_never g (eqb g 65536) e)), (λ e. rw e gap_never))

lasting_one : (a b : ℕ) → lasting a ≡ lasting b → a ≡ b
lasting_one a b e = ap seconds_of e

-- and where it is not, the seconds are the number
pub gap_is : (g s : ℕ) → as_gap g ≡ lasting s → g ≡ s
gap_is g s e = lasting_one g s (sym (gap_seconds g (λ n. not_never (record { 0 = s }) (sym e ∙ (never_is g).1 n))) ∙ e)
