-- A cost or none: what a cost that is found says, and what is found at most.
-- Assumes nothing.
use mathlib.Core.Bool.{Bool, true, false}
use mathlib.Core.Logic.{◌≢◌}
use mathlib.Core.Option.{Option, none, some}
use mathlib.Core.Path.{◌≡◌, refl, sym}
use Prim.Native.Nat.{ℕ, ◌+◌, ◌*◌, ◌≤◌}
use native.Mathlib.Omega.{arith}
use lib.Dec.{T as Is}
use Rattle.gaps.specs.declared.Gap.{Gap}
use Rattle.gaps.specs.declared.Gap.TheVariants.{Lasting, Never}
use Rattle.gaps.specs.Gaps.{seconds_of}
use Rattle.gaps.proofs.Gaps.{not_never}
use Rattle.sequencing.specs.Least.{only, plus, plus_gap, lower}
use Rattle.sequencing.specs.Counts.{valued}

pub some_eq : (a b : ℕ) → some a ≡ some b → a ≡ b
some_eq a b e = cc

pub none_some : (c : ℕ) → none ≡ some c → ⊥
none_some c e = let z : ◌≡◌ {A = ℕ} 0 1 = cc in omega arith

pub only_some : (b : Bool) (r : Option ℕ) (c : ℕ) → only b r ≡ some c → Is b × (r ≡ some c)
only_some true r c e = (tt, e)
only_some false r c e = absurd (none_some c e)

pub plus_some : (a : ℕ) (r : Option ℕ) (c : ℕ) → plus a r ≡ some c → (d : ℕ) × (r ≡ some d) × (c ≡ a + d)
plus_some a none c e = absurd (none_some c e)
plus_some a (some d) c e = (d, refl, sym (some_eq _ _ e))

pub plus_gap_some : (w : ℕ) (g : Gap) (r : Option ℕ) (c : ℕ) → plus_gap w g r ≡ some c → (d : ℕ) × (g ≢ Never) × (r ≡ some d) × (c ≡ w * seconds_of g + d)
plus_gap_some w Never r c e = absurd (none_some c e)
plus_gap_some w (Lasting s) r c e = let (d, v, q) = plus_some (w * s.0) r c e in (d, not_never s, v, q)

-- nothing is found through any gap where nothing is found after it
pub plus_gap_none : (w : ℕ) (g : Gap) → plus_gap w g none ≡ none
plus_gap_none w Never = refl
plus_gap_none w (Lasting s) = refl

-- where it is not never, a gap is its seconds
pub plus_gap_seconds : (w : ℕ) (g : Gap) (r : Option ℕ) → g ≢ Never → plus_gap w g r ≡ plus (w * seconds_of g) r
plus_gap_seconds w Never r h = absurd (h refl)
plus_gap_seconds w (Lasting s) r h = refl

-- ---- at most c is found

abbrev pub Upto : ℕ → Option ℕ → Type 0
Upto c none = ⊥
Upto c (some d) = d ≤ c

pub upto_some : (c : ℕ) (r : Option ℕ) → Upto c r → (d : ℕ) × (r ≡ some d) × (d ≤ c)
upto_some c none p = absurd p
upto_some c (some d) p = (d, refl, p)

pub upto_only : (c : ℕ) (b : Bool) (r : Option ℕ) → Is b → Upto c r → Upto c (only b r)
upto_only c true r t h = h
upto_only c false r t h = absurd t

pub upto_plus : (c a : ℕ) (r : Option ℕ) → Upto c r → Upto (a + c) (plus a r)
upto_plus c a none p = p
upto_plus c a (some d) p = omega arith

pub upto_plus_gap : (c w : ℕ) (g : Gap) (r : Option ℕ) → g ≢ Never → Upto c r → Upto (w * seconds_of g + c) (plus_gap w g r)
upto_plus_gap c w Never r n p = absurd (n refl)
upto_plus_gap c w (Lasting s) r n p = upto_plus c (w * s.0) r p

pub upto_left : (c : ℕ) (a b : Option ℕ) → Upto c a → Upto c (lower a b)
upto_left c none b p = absurd p
upto_left c (some a) none p = p
upto_left c (some a) (some b) p = omega arith

pub upto_right : (c : ℕ) (a b : Option ℕ) → Upto c b → Upto c (lower a b)
upto_right c none b p = p
upto_right c (some a) none p = absurd p
upto_right c (some a) (some b) p = omega arith

pub found_most : (r : Option ℕ) → valued r ≤ 1
found_most none = omega arith
found_most (some c) = omega arith

-- ---- as a table holds it
