-- The lent table.
use Rattle.std.specs.Prelude.{◌≡◌}
use Rattle.filling.specs.declared.Lent.{Lent}

-- a table before and after a call: lent for the same queue, and the same table
abbrev pub SameLoan : (old new : Lent) → Type 0
SameLoan old new = (new.setup ≡ old.setup) × (new.table.ghost_name ≡ old.table.ghost_name)
