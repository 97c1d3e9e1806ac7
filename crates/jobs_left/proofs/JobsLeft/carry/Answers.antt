-- `Stepping` and `Carried` hold of one kind more, or end at the first that can have one more job. The sums only fall.
use Rattle.std.proofs.Common.{arith}
use Rattle.jobs_left.proofs.Stepping.{stepping_more, stepping_out, stepping_done}
use Rattle.jobs_left.proofs.Sums.{some_left, some_weight, carried_more, carried_out}
use Rattle.jobs_left.proofs.JobsLeft.carry.Goals as goal

pub returns-then-n-kind-clause-left_after : goal.returns-then-n-kind-clause-left_after
returns-then-n-kind-clause-left_after c = (stepping_out (omega arith) c.loop-j.invariant.stepping c.loop-j-test.true c.if-n-kind.true).left_after

pub returns-then-n-kind-clause-summed_after : goal.returns-then-n-kind-clause-summed_after
returns-then-n-kind-clause-summed_after c = rw c.from.ensures (carried_out (omega arith) c.loop-j.invariant.carried c.loop-j.j c.loop-j-test.true)

pub overflow_sub-self : goal.overflow_sub-self
overflow_sub-self c = some_left (omega arith) c.loop-j.invariant.carried c.loop-j.j c.loop-j-test.true

pub overflow_mul-n : goal.overflow_mul-n
overflow_mul-n c = omega (arith, some_weight (omega arith) c.loop-j.invariant.carried c.loop-j.j c.loop-j-test.true, c.loop-j.invariant.carried.lighter)

pub overflow_sub-self-in-loop-j : goal.overflow_sub-self-in-loop-j
overflow_sub-self-in-loop-j c = rw c.from-in-loop-j.ensures (some_weight (omega arith) c.loop-j.invariant.carried c.loop-j.j c.loop-j-test.true)

pub loop-j-preserved : goal.loop-j-preserved
loop-j-preserved c = record {
  stepping = stepping_more (omega arith) c.loop-j.invariant.stepping c.loop-j-test.true c.if-n-kind.false;
  carried = rw c.from-in-loop-j.ensures (carried_more (omega arith) c.loop-j.invariant.carried c.loop-j.j c.loop-j-test.true);
  index = c.loop-j.invariant.index;
}

pub returns-clause-left_after : goal.returns-clause-left_after
returns-clause-left_after c = (stepping_done (omega arith) c.loop-j.invariant.stepping c.loop-j-test.false).left_after
