-- The kinds before j are at 0 and the step goes on from j; the sums are those of the counts so far.
use Rattle.std.proofs.Common.{◌≡◌}
use Rattle.jobs_left.proofs.Stepping.{Stepping}
use Rattle.jobs_left.proofs.Sums.{Carried}
use Rattle.jobs_left.proofs.JobsLeft.carry.Given as goal

abbrev pub invariant-loop-j : goal.invariant-loop-j
invariant-loop-j l = record {
  stepping : Stepping l.kinds l.fn.self.left l.self.left l.j;
  carried : Carried l.kinds l.fn.self l.self;
  index : l.self.index ≡ l.fn.self.index;
}
