-- A turn reads one job, or the first that is refused: the lemmas on `Ordering` and `Looping`.
use Rattle.std.proofs.Common.{◌≡◌, Err, rules, sym, ◌∙◌}
use Rattle.fields.proofs.Loops.{loop_stop, loop_done}
use Rattle.plan_reader.proofs.Orders.{order_again}
use Rattle.plan_reader.proofs.read_order.Goals as goal

pub loop-place-preserved : goal.loop-place-preserved
loop-place-preserved c =
    let (same, w) = c.loop-place.invariant in
    let read = c.in_ok-out.ensures in
    (read.0 ∙ same, order_again w _ _ c.loop-place-test.true (rw same at read.1))

pub returns-in_err-out-clause-value : goal.returns-in_err-out-clause-value
returns-in_err-out-clause-value c =
    let (same, w) = c.loop-place.invariant in
    let read = c.in_err-out.ensures in
    let err : c.from_residual.result ≡ Err c.in_err-out.field-0.0 = search rules in
    (read.0 ∙ same, rw err (sym (loop_stop w.loop c.loop-place-test.true _ (rw same at read.1)).0))

pub returns-in_err-out-clause-out_after : goal.returns-in_err-out-clause-out_after
returns-in_err-out-clause-out_after c =
    let (same, w) = c.loop-place.invariant in
    (loop_stop w.loop c.loop-place-test.true _ (rw same at c.in_err-out.ensures.1)).1

pub returns-clause-value : goal.returns-clause-value
returns-clause-value c = (c.loop-place.invariant.0, sym (loop_done c.loop-place.invariant.1.loop c.loop-place-test.false).0)

pub returns-clause-out_after : goal.returns-clause-out_after
returns-clause-out_after c = (loop_done c.loop-place.invariant.1.loop c.loop-place-test.false).1
