-- Under each goal the number stands in that goal's own unit.
use Rattle.std.proofs.Common.{refl}
use Rattle.units.proofs.Costs.{as_seconds, as_pupil_seconds}
use Rattle.units.proofs.cost_in.Goals as goal

pub returns-then-goal-eq1 : goal.returns-then-goal-eq1
returns-then-goal-eq1 c = as_seconds c.if-goal-eq1.true refl

pub returns-else-goal-eq1 : goal.returns-else-goal-eq1
returns-else-goal-eq1 c = as_pupil_seconds c.if-goal-eq1.false refl
