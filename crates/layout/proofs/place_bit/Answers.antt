-- No bit is shifted out of its half.
use Rattle.std.proofs.Common.{◌*◌, ap, ◌∙◌, arith}
use Rattle.layout.proofs.PlaceSets.{bit_low, bit_high}
use Rattle.layout.proofs.place_bit.Goals as goal

pub returns-then-place-lt32 : goal.returns-then-place-lt32
returns-then-place-lt32 c = c.from.ensures ∙ bit_low c.args.place (omega arith)

pub returns : goal.returns
returns c = ap (λ n. n * 4294967296) c.from-2.ensures ∙ bit_high c.args.place (omega arith) (omega arith)
