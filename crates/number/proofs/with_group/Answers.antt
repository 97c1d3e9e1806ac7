-- The group stands above the value's bits, so the union is the sum.
use Rattle.number.proofs.Bits.{placed}
use Rattle.number.proofs.with_group.Goals as goal

pub returns : goal.returns
returns c = placed c.args.value c.args.low c.args.shift c.requires.0 c.requires.1.0 c.requires.1.1
