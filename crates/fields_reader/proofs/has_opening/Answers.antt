-- The library tests a beginning so.
use Rattle.std.proofs.Common.{◌∙◌}
use Rattle.fields.proofs.Openings.{opens_starts}
use Rattle.fields_reader.proofs.has_opening.Goals as goal

pub returns : goal.returns
returns c = c.starts_with.ensures.value ∙ opens_starts _ _ c.told-opening
