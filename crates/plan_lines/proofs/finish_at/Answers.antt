-- `Cutting` goes on with each job cut.
use Rattle.gaps.specs.Gaps.{gap_between}
use Rattle.sequencing.specs.Problem.{kind as kindIn}
use Rattle.problem.specs.OfQueue.{problem}
use Rattle.plan_lines.proofs.Finishing.{cutting_more}
use Rattle.plan_lines.proofs.finish_at.Goals as goal

pub loop-job-preserved : goal.loop-job-preserved
loop-job-preserved c =
    let q = c.args.queue in
    let cut = c.in-Some.ensures.lookup.0 in
    let added = c.gap_seconds.ensures in
    rw c.from-row.ensures
    (cutting_more (gap_between q.gaps) (kindIn (problem q)) _ _ _ _ _ _ c.loop-job.invariant c.in-Some.cut.now cut.2 cut.3 c.loop-job-test.true cut.1
    _ _ _ c.kind_of-kind.ensures added.0 added.1 c.add-finish.ensures)
