-- The bytes stay, and `Rows` says what was read and stored.
use Rattle.std.proofs.Common.{◌≡◌}
use Rattle.queue_reader.proofs.Loops.{Rows}
use Rattle.queue_reader.proofs.read_gaps.Given as goal

abbrev pub invariant-loop-row : goal.invariant-loop-row
invariant-loop-row l =
    (l.input.bytes ≡ l.initial.input.bytes)
    × Rows l.initial.input.bytes.now l.initial.input.at l.kinds l.initial.gaps l.gaps l.input.at l.row
