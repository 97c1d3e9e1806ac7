-- The message's own refusal, or the queue split.
use Rattle.std.proofs.Common.{rules, Err, ◌≡◌}
use Rattle.formats.proofs.Readings.{answer_accepted, answer_refused}
use Rattle.queue_laws.proofs.Theorems.{reads, accepted_valid}
use Rattle.best_order.proofs.Ends.{ends_as, ends_refused}
use Rattle.best_split.proofs.Endings.{message_refused, message_accepted}
use Rattle.best_split.proofs.Best.{splitting}
use Rattle.splitter.proofs.split.Goals as goal

pub returns-in_err-queue : goal.returns-in_err-queue
returns-in_err-queue c =
    let refused : c.from_residual.result ≡ Err c.in_err-queue.field-0.0 = search rules in
    let ends = ends_refused c.args.table.now c.args.buffer.now (message_refused _ _ _ _ _ (answer_refused reads _ _ c.in_err-queue.ensures)) in
    rw refused (splitting ends.0 ends.1.0 ends.1.1)

pub invariant_of-split_record : goal.invariant_of-split_record
invariant_of-split_record c = let (accepted, same) = answer_accepted reads _ _ c.in_ok-queue.ensures in record { valid = rw same at (accepted_valid _ accepted) }

pub returns : goal.returns
returns c =
    let (accepted, same) = answer_accepted reads _ _ c.in_ok-queue.ensures in
    let split = rw (← same) at c.split_record.ensures in
    let ends = ends_as _ _ _ (message_accepted _ _ _ _ accepted) (split.value, (split.leaves_table, split.buffer_after)) in
    splitting ends.0 ends.1.0 ends.1.1
