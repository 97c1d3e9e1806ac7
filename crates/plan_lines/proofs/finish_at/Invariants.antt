-- `Cutting` is what the loop keeps.
use Rattle.gaps.specs.Gaps.{gap_between}
use Rattle.sequencing.specs.Problem.{kind as kindIn}
use Rattle.problem.specs.OfQueue.{problem}
use Rattle.plan_lines.proofs.Finishing.{Cutting}
use Rattle.plan_lines.proofs.finish_at.Given as goal

abbrev pub invariant-loop-job : goal.invariant-loop-job
invariant-loop-job l =
    Cutting (gap_between l.queue.gaps) (kindIn (problem l.queue)) l.queue.start l.fn.order l.place l.row l.finish.0 l.job-index
