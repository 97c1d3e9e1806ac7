-- The shift, then the places of every kind.
use Rattle.std.proofs.Common.{◌+◌, sym, ap, ◌∙◌, arith}
use borrow.Author.Tests.{lt-leb}
use Rattle.fields.specs.Fields.{all}
use Rattle.queue.proofs.Windows.{pairs_part}
use Rattle.splitting.specs.Covers.{covering}
use Rattle.splitter.proofs.Covers.{shift_short, shift_enough}
use Rattle.splitter.proofs.covers_all.Goals as goal

pub returns-then-queue : goal.returns-then-queue
returns-then-queue c =
    let q = c.args.queue.now.queue in
    c.all_cover.ensures ∙ sym (ap (all (covering q.jobs)) (pairs_part q.windows q.kinds (omega arith))) ∙ sym (shift_enough q c.if-queue.true)

pub returns-else-queue : goal.returns-else-queue
returns-else-queue c = let q = c.args.queue.now.queue in lt-leb q.jobs (q.max_shift + 1) c.if-queue.false ∙ sym (shift_short q c.if-queue.false)
