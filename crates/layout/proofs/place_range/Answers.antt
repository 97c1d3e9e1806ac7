-- A range that ends before it begins is empty, and else the bit behind its last place is not below that of its first.
use Rattle.std.proofs.Common.{◌+◌, sym, arith}
use Rattle.std.proofs.Math.Pow.{pow_mono}
use Rattle.layout.proofs.PlaceSets.{range_none}
use Rattle.layout.proofs.place_range.Goals as goal

pub returns-then-last-first : goal.returns-then-last-first
returns-then-last-first c = sym (range_none c.args.places.first c.args.places.last c.if-last-first.true)

pub overflow_sub-result : goal.overflow_sub-result
overflow_sub-result c = omega (arith, c.place_bit.ensures, c.place_bit-2.ensures, pow_mono {i = c.from-2.result} {j = c.from.result + 1} (omega arith))
