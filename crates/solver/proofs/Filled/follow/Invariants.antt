-- At each slot the order so far, with the jobs still to be followed behind it, is the share's; zeros stand behind the slots.
use Rattle.std.proofs.Common.{◌++◌, drop, replicate}
use Rattle.solver.proofs.Following.{Following}
use Rattle.solver.proofs.Filled.follow.Given as goal

abbrev pub invariant-loop-slot : goal.invariant-loop-slot
invariant-loop-slot l = Following l.setup.queue l.from l.upto l.first (l.slot-items ++ drop l.initial.k.jobs (replicate 60 0)) l.k l.kind l.slot-index
