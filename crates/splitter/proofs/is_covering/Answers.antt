-- The first place and the last decide, where there are jobs.
use Rattle.std.proofs.Common.{sym, ◌∙◌, arith}
use borrow.Author.Tests.{le-leb, lt-leb}
use Rattle.fields.specs.Fields.{all}
use Rattle.sequencing.specs.Lists.{from}
use Rattle.splitting.proofs.Covered.{covering_ends}
use Rattle.splitter.proofs.is_covering.Goals as goal

pub returns-then-jobs-eq0 : goal.returns-then-jobs-eq0
unfolding all from
returns-then-jobs-eq0 c = rw c.if-jobs-eq0.true

pub returns-then-window-le1 : goal.returns-then-window-le1
returns-then-window-le1 c =
    let w = c.args.window.now in
    rw c.from.ensures (sym (covering_ends c.args.jobs w.first w.last (omega arith) ∙ rw (le-leb w.first 1 c.if-window-le1.true)))

pub returns-else-window-le1 : goal.returns-else-window-le1
returns-else-window-le1 c = sym (covering_ends _ _ _ (omega arith) ∙ rw (lt-leb _ _ c.if-window-le1.false))
