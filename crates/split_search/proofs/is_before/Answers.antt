-- It is std's order on lists.
use Rattle.std.proofs.Common.{sym, ◌∙◌}
use Rattle.split_search.proofs.Before.{before_is}
use Rattle.split_search.proofs.is_before.Goals as goal

pub returns : goal.returns
returns c = c.lt.ensures ∙ before_is c.args.counts.now c.args.held.now (c.told-counts ∙ sym c.told-held)
