-- `Counting` goes on with each kind, and at the end says what is listed.
use Rattle.std.proofs.Common.{◌≡◌, length-take, arith}
use Rattle.jobs_left.specs.declared.Kind.{Kind}
use Rattle.layout.proofs.ByKind.{counting_none, counting_more, counting_done, front_known}
use Rattle.layout.proofs.list_jobs.Goals as goal

pub loop-j-init : goal.loop-j-init
loop-j-init c = counting_none

pub loop-j-preserved : goal.loop-j-preserved
loop-j-preserved c =
    let listed = c.list_kind-count.ensures in
    counting_more c.args.queue.now.valid c.loop-j.invariant (omega (arith, length-take {A = Kind})) listed.value (omega arith) listed.jobs_after

pub returns-clause-value : goal.returns-clause-value
returns-clause-value c = (counting_done c.args.queue.now.valid c.loop-j.invariant (omega arith)).0

pub returns-clause-kinds_after : goal.returns-clause-kinds_after
returns-clause-kinds_after c =
    let q = c.args.queue.now in
    let all : c.loop-j.j ≡ q.queue.kinds = omega arith in
    front_known q.valid c.args.kinds.now (omega arith) (rw all at c.loop-j.invariant.kinds_are)

pub returns-clause-jobs_after : goal.returns-clause-jobs_after
returns-clause-jobs_after c = (counting_done c.args.queue.now.valid c.loop-j.invariant (omega arith)).1
