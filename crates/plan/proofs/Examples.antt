-- The worked examples of specs/Examples.antt, computed from the definitions.
use Rattle.std.specs.Prelude.{refl}
use mathlib.Core.List.{flat_map}
use Rattle.number.specs.Numbers.{groups_at, groups, encode}
use Rattle.fields.specs.Lists.{tabulate, stands_in}
use Rattle.fields.specs.Messages.{opens}
use Rattle.fields.specs.Orders.{in_order, all_in_order}
use Rattle.plan.specs.Reading.{plan, read_plan}
use Rattle.plan.specs.Writing.{message, judge, write_plan, written_plan}
use Rattle.plan.specs.Examples.{Examples}

pub examples : Examples
unfolding groups_at groups encode opens tabulate flat_map stands_in in_order all_in_order plan read_plan message judge write_plan written_plan
examples = (
  refl,
  refl,
  refl,
  refl,
  refl,
  refl,
  refl,
  refl,
  refl,
  refl,
  refl,
  refl,
  refl,
  refl,
  refl,
  refl,
  refl,
  refl,
  refl,
  refl,
  refl,
  refl,
  refl,
  refl,
  refl,
  refl,
  refl,
  refl,
)
