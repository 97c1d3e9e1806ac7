-- The bytes stay, and `Running` says what was read and stored.
use Rattle.std.proofs.Common.{◌≡◌}
use Rattle.fields.specs.Fields.{field, within}
use Rattle.fields.proofs.Loops.{Running}
use Rattle.fields_reader.proofs.read_run.Given as goal

abbrev pub invariant-loop-held : goal.invariant-loop-held
invariant-loop-held g l =
    (l.input.bytes ≡ l.initial.input.bytes)
    × Running g.T.Held.held (field 3 (within l.low l.high) l.why) l.initial.input.bytes.now l.initial.input.at l.initial.out l.out l.input.at l.held-index
