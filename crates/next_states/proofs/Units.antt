-- Costs in the unit of W.
-- Assumes nothing.
use Prim.Native.Nat.{ℕ}
use mathlib.Core.Bool.{Bool, true, false, cond}
use mathlib.Core.Option.{Option, none, some}
use mathlib.Core.Path.{◌≡◌, refl}
use lib.Dec.{eqb}
use Rattle.units.specs.declared.Cost.{Cost}
use Rattle.units.specs.declared.Cost.TheVariants.{InSeconds, InPupilSeconds}
use Rattle.units.specs.Costs.{cost_in, number_of}
use Rattle.jobs_left.specs.declared.StepWeight.{StepWeight}
use Rattle.jobs_left.specs.declared.StepWeight.TheVariants.{Seconds, Pupils}
use Rattle.jobs_left.specs.Kinds.{step_of}
use Rattle.next_states.specs.NextStates.{cost_by, least_answer}

pub number_by : (w : StepWeight) (c : ℕ) → number_of (cost_by w c) ≡ c
number_by Seconds c = refl
number_by (Pupils weight) c = refl

-- W's unit by a goal is the goal's own
pub unit_is : (goal w c : ℕ) → cost_by (step_of goal w) c ≡ cost_in goal c
unfolding cost_in
unit_is goal w c = go (eqb goal 1) where
  go : (b : Bool) → cost_by (cond b Seconds (Pupils w)) c ≡ cond b (InSeconds (record { 0 = c })) (InPupilSeconds (record { 0 = c }))
  go true = refl
  go false = refl

-- units that agree answer alike
pub least_unit : (u u' : ℕ → Cost) → ((c : ℕ) → u c ≡ u' c) → (x : ℕ) (o : Option ℕ) → least_answer u x o ≡ least_answer u' x o
least_unit u u' same x none = refl
least_unit u u' same x (some c) = rw (same c)
