-- A cost or none, and the least of some costs.
use Rattle.std.specs.Prelude.{Bool, true, false, cond, ℕ, zero, suc, ◌+◌, ◌*◌, min, leb}
use Rattle.std.proofs.Math.Option.{Option, none, some}
use Rattle.gaps.specs.declared.Gap.{Gap}
use Rattle.gaps.specs.declared.Gap.TheVariants.{Lasting, Never}

-- r where a test holds
abbrev pub only : Bool → Option ℕ → Option ℕ
only true r = r
only false r = none

-- c more
abbrev pub plus : ℕ → Option ℕ → Option ℕ
plus c none = none
plus c (some d) = some (c + d)

-- w × a gap more; never is none before w is looked at, so with w = 0 too
abbrev pub plus_gap : ℕ → Gap → Option ℕ → Option ℕ
plus_gap w Never r = none
plus_gap w (Lasting s) r = plus (w * s.0) r

-- the lower of two, where both are found
abbrev pub lower : Option ℕ → Option ℕ → Option ℕ
lower none b = b
lower (some a) none = some a
lower (some a) (some b) = some (min a b)

-- a is found, and b is not below it
abbrev pub reaches : Option ℕ → Option ℕ → Bool
reaches none b = false
reaches (some a) none = true
reaches (some a) (some b) = leb a b

-- the least of f over the kinds 1 to n
unfoldable pub least : (ℕ → Option ℕ) → ℕ → Option ℕ
least f zero = none
least f (suc n) = lower (least f n) (f (suc n))

-- the smallest kind that reaches it
unfoldable pub arg_least : (ℕ → Option ℕ) → ℕ → ℕ
arg_least f zero = 0
arg_least f (suc n) = cond (reaches (least f n) (f (suc n))) (arg_least f n) (suc n)
