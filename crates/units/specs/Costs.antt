-- Costs in their goal's own unit.
use Rattle.std.specs.Prelude.{ℕ, ◌+◌, max, Bool, true, false, cond, eqb}
use Rattle.units.specs.declared.Cost.{Cost}
use Rattle.units.specs.declared.Cost.TheVariants.{InSeconds, InPupilSeconds}

-- so many of the goal's own unit: seconds under goal 1, pupil-seconds under goal 2
unfoldable pub cost_in : ℕ → ℕ → Cost
cost_in goal n = cond (eqb goal 1) (InSeconds (record { 0 = n })) (InPupilSeconds (record { 0 = n }))

-- the number alone
abbrev pub number_of : Cost → ℕ
number_of (InSeconds s) = s.0
number_of (InPupilSeconds p) = p.0

-- which of the two units
abbrev pub in_seconds : Cost → Bool
in_seconds (InSeconds s) = true
in_seconds (InPupilSeconds p) = false

-- 02's cost of both cutters, in one unit: the later of two times in seconds, the sum of both in pupil-seconds
abbrev pub together : Cost → Cost → Cost
together (InSeconds a) b = InSeconds (record { 0 = max a.0 (number_of b) })
together (InPupilSeconds a) b = InPupilSeconds (record { 0 = a.0 + number_of b })
