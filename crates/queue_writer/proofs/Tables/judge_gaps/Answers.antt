-- `all` answers as the recursion does. What a range gives at i is found where a list is read at i.
use Rattle.std.proofs.Common.{◌≡◌, refl, get_or, rules}
use Rattle.std.proofs.iter.runs.Sources.{ranges}
use Rattle.fields.specs.Fields.{all, within}
use Rattle.fields.specs.Lists.{tabulate}
use Rattle.queue.specs.Record.{gap}
use Rattle.queue_writer.proofs.Tests.{all_rows_is}
use Rattle.queue_writer.proofs.Tables.judge_gaps.Goals as goal

pub returns : goal.returns
returns c =
    let q = c.args.self.now.queue.now in
    all_rows_is (all (within 0 65536)) (λ i. tabulate (gap q i) 1 q.kinds) q.kinds _
    (λ e i h. let read : get_or q.gaps i 0 ≡ get_or q.gaps i 0 = refl in search (rules, ranges)) (λ e. search (rules, ranges))
