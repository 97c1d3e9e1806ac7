-- `Counting` is what the loop keeps.
use Rattle.sizer.proofs.Counting.{Counting}
use Rattle.sizer.proofs.most_feasible.Given as goal

abbrev pub invariant-loop-kind : goal.invariant-loop-kind
invariant-loop-kind l = Counting l.kinds l.states l.product l.kind-index
