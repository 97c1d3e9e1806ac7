-- What is left to write is the windows from the next one on.
use Rattle.std.proofs.Common.{drop}
use mathlib.Core.List.{flat_map}
use Rattle.fields_writer.proofs.Writing.{Writing}
use Rattle.queue.specs.Writing.{encode_window}
use Rattle.queue.specs.Record.{window_pairs}
use Rattle.queue_writer.proofs.write_windows.Given as goal

abbrev pub invariant-loop-window : goal.invariant-loop-window
invariant-loop-window l =
    Writing (flat_map encode_window (window_pairs l.windows)) l.initial.out (flat_map encode_window (window_pairs (drop l.window-index l.windows))) l.out
