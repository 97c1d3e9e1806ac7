-- `Spacing` is what the loop keeps.
use Rattle.layout.proofs.Strides.{Spacing}
use Rattle.layout.proofs.set_blocks.Given as goal

abbrev pub invariant-loop-kind : goal.invariant-loop-kind
invariant-loop-kind l = Spacing l.block l.fn.kinds l.kinds l.at l.kind-index
