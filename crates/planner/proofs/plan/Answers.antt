-- The message's own refusal, or the queue planned.
use Rattle.std.proofs.Common.{◌≡◌, ap, ◌∙◌, length, rules, Err}
use Rattle.queue.specs.declared.Queue.{Queue}
use Rattle.formats.proofs.Readings.{answer_accepted, answer_refused}
use Rattle.queue_laws.proofs.Theorems.{reads, accepted_valid}
use Rattle.best_order.specs.Endings.{ending_of}
use Rattle.best_order.specs.Planning.{ending_on}
use Rattle.best_order.proofs.Endings.{message_refused, message_accepted}
use Rattle.best_order.proofs.Best.{planning}
use Rattle.best_order.proofs.Ends.{ends_refused}
use Rattle.planner.proofs.plan.Goals as goal

pub returns-in_err-queue : goal.returns-in_err-queue
returns-in_err-queue c =
    let e : c.from_residual.result ≡ Err c.in_err-queue.field-0.0 = search rules in
    let verdict = answer_refused reads c.args.message.now _ c.in_err-queue.ensures in
    let ends = ends_refused c.args.table.now c.args.buffer.now (message_refused _ _ _ _ verdict) in
    rw e (planning ends.0 ends.1.0 ends.1.1)

pub invariant_of-plan_record : goal.invariant_of-plan_record
invariant_of-plan_record c =
    let (accepts, same) = answer_accepted reads c.args.message.now _ c.in_ok-queue.ensures in
    record { valid = rw same at (accepted_valid _ accepts) }

pub returns : goal.returns
returns c =
    let table = c.args.table.now in
    let buffer = c.args.buffer.now in
    let (accepts, same) = answer_accepted reads c.args.message.now _ c.in_ok-queue.ensures in
    let ends : ending_on c.args.message.now table buffer ≡ ending_of c.in_ok-queue.queue (length table) (length buffer) =
    message_accepted c.args.message.now (length table) (length buffer) accepts ∙ ap (λ (q : Queue). ending_of q (length table) (length buffer)) same in
    let made = c.plan_record.ensures in
    planning (rw ends made.value) (rw ends made.leaves_table) (rw ends made.buffer_after)
