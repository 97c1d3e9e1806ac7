-- What is left to write is the rows from the next one on.
use Rattle.std.proofs.Common.{drop}
use mathlib.Core.List.{flat_map}
use Rattle.fields.specs.Fields.{encode_all}
use Rattle.fields_writer.proofs.Writing.{Writing}
use Rattle.queue.specs.Record.{rows}
use Rattle.queue_writer.proofs.Tables.write_gaps.Given as goal

abbrev pub invariant-loop-row : goal.invariant-loop-row
invariant-loop-row l =
    let all_rows = rows l.self.queue.now in
    Writing (flat_map encode_all all_rows) l.initial.out (flat_map encode_all (drop l.row all_rows)) l.out
