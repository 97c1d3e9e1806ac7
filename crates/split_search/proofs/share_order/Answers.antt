-- A look for the first kind, then the table is followed.
use Rattle.std.proofs.Common.{sym, ◌∙◌}
use Rattle.split_search.proofs.Shares.{as_share, share_followed}
use Rattle.split_search.proofs.share_order.Goals as goal

pub follow-requires : goal.follow-requires
follow-requires c = as_share c.requires (sym c.unwrap-first.ensures ∙ c.look.ensures)

pub returns : goal.returns
returns c = share_followed c.requires (sym c.unwrap-first.ensures ∙ c.look.ensures) c.follow.ensures
