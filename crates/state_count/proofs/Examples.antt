-- The worked examples of specs/Examples.antt, computed from the definitions.
use Rattle.std.specs.Prelude.{refl}
use Rattle.sequencing.specs.Lists.{from, sum}
use Rattle.sequencing.specs.Entries.{size}
use Rattle.state_count.specs.StateCount.{others, most_feasible}
use Rattle.state_count.specs.Examples.{Examples}

pub examples : Examples
unfolding most_feasible others size sum from
examples = (refl, refl, refl, refl, refl)
