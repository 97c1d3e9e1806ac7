-- The worked examples of specs/Examples.antt, computed from the definitions.
use Rattle.std.specs.Prelude.{refl}
use mathlib.Core.List.{flat_map}
use Rattle.number.specs.Numbers.{groups, encode}
use Rattle.fields.specs.Lists.{tabulate}
use Rattle.split_plan.specs.Writing.{message}
use Rattle.split_plan.specs.Examples.{Examples}

pub examples : Examples
unfolding groups encode tabulate flat_map message
examples = record { A_cold = refl; B_after_1 = refl; one_job = refl; no_jobs = refl; past = refl; longest = refl }
