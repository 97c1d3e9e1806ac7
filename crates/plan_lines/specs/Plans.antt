-- What the programs have of a queue message that they plan.
use Rattle.std.specs.Prelude.{Result, Ok, Err}
use Rattle.refusal.specs.declared.Reason.{Reason}
use Rattle.refusal.specs.declared.Reason.TheVariants.{NoOrder}
use Rattle.plan.specs.Reading.{read_plan}
use Rattle.best_order.specs.Endings.{Ending, refused, unplannable, planned}
use Rattle.plan_lines.specs.declared.Planned.{Planned}

-- by how planning ends: the one refusal, 17 where no order is permitted, or the queue with the plan that reading the plan's bytes gives
abbrev pub planned_by : Ending → Result Planned Reason
planned_by (refused r) = Err r
planned_by (unplannable q) = Err NoOrder
planned_by (planned q bytes) = Ok (record { queue = q; plan = (read_plan bytes).plan })
