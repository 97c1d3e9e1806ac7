-- The kinds stand in front.
use Rattle.std.proofs.Common.{take, ap, ◌∙◌}
use Rattle.layout.proofs.Prepared.{kinds_take}
use Rattle.layout.proofs.Setup.kinds.Goals as goal

pub returns : goal.returns
returns c = let s = c.args.self.now in ap (λ n. take n s.layout.kinds) s.prepared.kinds_are ∙ kinds_take s.valid s.prepared
