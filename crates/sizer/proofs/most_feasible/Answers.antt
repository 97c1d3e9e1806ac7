-- `Counting` goes on with each kind, and both numbers fit for five of them.
use Rattle.std.proofs.Common.{arith}
use Rattle.sizer.proofs.Counting.{counting_none, states_fit, product_fits, counting_more}
use Rattle.sizer.proofs.most_feasible.Goals as goal

pub loop-kind-init : goal.loop-kind-init
loop-kind-init c = counting_none

pub overflow_add-states-in-loop-kind : goal.overflow_add-states-in-loop-kind
overflow_add-states-in-loop-kind c =
    let h = c.loop-kind-test.true in
    rw c.from-count.ensures (omega (arith, states_fit c.loop-kind.invariant h (c.requires.few_jobs _ h) c.requires.few_kinds))

pub overflow_mul-product : goal.overflow_mul-product
overflow_mul-product c =
    let h = c.loop-kind-test.true in
    rw c.from-count.ensures (omega (arith, product_fits c.loop-kind.invariant h (c.requires.few_jobs _ h) c.requires.few_kinds))

pub loop-kind-preserved : goal.loop-kind-preserved
loop-kind-preserved c =
    let h = c.loop-kind-test.true in
    rw c.from-count.ensures (counting_more c.loop-kind.invariant h (c.requires.few_jobs _ h))
