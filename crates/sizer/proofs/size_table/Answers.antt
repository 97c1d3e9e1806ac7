-- The reader's refusal, or both numbers of the queue that it read.
use Rattle.std.proofs.Common.{rules, Ok, Err, ◌≡◌, sym, ap, ◌∙◌}
use Rattle.formats.proofs.Readings.{answer_accepted, answer_refused}
use Rattle.queue_laws.proofs.Theorems.{reads, accepted_valid}
use Rattle.table_size.specs.Sizes.{sizes}
use Rattle.table_size.proofs.Sizing.{size_refused, size_known, sizing}
use Rattle.sizer.proofs.size_table.Goals as goal

pub returns-in_err-queue : goal.returns-in_err-queue
returns-in_err-queue c =
    let refused : c.from_residual.result ≡ Err c.in_err-queue.field-0.0 = search rules in
    rw refused (sizing _ (sym (size_refused _ _ (answer_refused reads _ _ c.in_err-queue.ensures))))

pub invariant_of-size_queue : goal.invariant_of-size_queue
invariant_of-size_queue c = let (accepted, same) = answer_accepted reads _ _ c.in_ok-queue.ensures in record { valid = rw (← same) (accepted_valid _ accepted) }

pub returns : goal.returns
returns c =
    let (accepted, same) = answer_accepted reads _ _ c.in_ok-queue.ensures in
    sizing _ (ap (λ (n : _). Ok n) (c.size_queue.ensures ∙ ap sizes (sym same)) ∙ sym (size_known _ accepted))
