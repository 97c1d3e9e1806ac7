-- The bytes stay, and `Windows` says what was read and stored.
use Rattle.std.proofs.Common.{◌≡◌}
use Rattle.queue_reader.proofs.Loops.{Windows}
use Rattle.queue_reader.proofs.read_windows.Given as goal

abbrev pub invariant-loop-window : goal.invariant-loop-window
invariant-loop-window l =
    (l.input.bytes ≡ l.initial.input.bytes)
    × Windows l.initial.input.bytes.now l.initial.input.at l.initial.out l.out l.input.at l.window-index
