-- The worked examples of specs/Examples.antt, computed from the definitions.
use Rattle.std.specs.Prelude.{refl}
use Rattle.number.specs.Numbers.{groups_at, groups, encode}
use Rattle.number.specs.Examples.{Examples}

pub examples : Examples
unfolding groups_at groups encode
examples = (refl, refl, refl, refl, refl, refl, refl, refl)
