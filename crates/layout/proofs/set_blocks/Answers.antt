-- `Spacing` goes on with each kind.
use Rattle.std.proofs.Common.{arith}
use Rattle.layout.proofs.Strides.{spacing_more, spacing_done}
use Rattle.layout.proofs.set_blocks.Goals as goal

pub loop-kind-preserved : goal.loop-kind-preserved
loop-kind-preserved c = spacing_more c.loop-kind.invariant (omega arith)

pub returns : goal.returns
returns c = spacing_done c.loop-kind.invariant (omega arith)
