-- The sums are those of the kinds passed.
use Rattle.std.proofs.Common.{length}
use Rattle.jobs_left.proofs.Sums.{Weighing}
use Rattle.jobs_left.proofs.JobsLeft.new.Given as goal

abbrev pub invariant-loop-n : goal.invariant-loop-n
invariant-loop-n l = Weighing l.kinds l.fn.left l.jobs l.weight (length l.yielded)
