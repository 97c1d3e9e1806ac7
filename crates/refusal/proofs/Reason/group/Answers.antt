-- A refusal's group is its number's.
use Rattle.std.proofs.Common.{ap, ◌∙◌}
use Rattle.refusal.specs.Reasons.{number_group}
use Rattle.refusal.proofs.Reasons.{group_by_number}
use Rattle.refusal.proofs.Reason.group.Goals as goal

pub returns : goal.returns
returns c = c.from.ensures ∙ ap number_group c.number.ensures ∙ group_by_number c.args.self
