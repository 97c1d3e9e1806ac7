-- The row that is written is the next one.
use Rattle.std.proofs.Common.{◌≡◌, ◌+◌, ◌∷◌, drop, arith}
use Rattle.fields.specs.Fields.{encode_all}
use Rattle.fields_writer.proofs.Writing.{next_bytes, no_bytes, writing_room, writing_more, writing_done}
use Rattle.queue.specs.Record.{rows}
use Rattle.queue_writer.proofs.Arrays.{next_row, no_rows}
use Rattle.queue_writer.proofs.Tables.write_gaps.Goals as goal
use Rattle.queue_writer.proofs.Tables.write_gaps.Goals.{After-gap_row}

next : (c : After-gap_row) → let all_rows = rows c.args.self.now.queue.now in
    drop c.loop-row.row all_rows ≡ c.gap_row.result.now ∷ drop (c.loop-row.row + 1) all_rows
next c = rw c.gap_row.ensures (next_row c.args.self.now.queue.now c.loop-row.row (omega arith))

pub write_run-requires : goal.write_run-requires
write_run-requires c = writing_room c.loop-row.invariant _ _ (next_bytes encode_all (next c))

pub loop-row-preserved : goal.loop-row-preserved
loop-row-preserved c =
    let row = next (goal.at.loop-row-preserved c).After-gap_row in
    writing_more c.loop-row.invariant _ _ (next_bytes encode_all row) _ c.write_run.ensures

pub returns-2 : goal.returns-2
returns-2 c =
    let row = next (goal.at.returns-2 c).After-gap_row in
    let last = writing_more c.loop-row.invariant _ _ (next_bytes encode_all row) c.write_run.new.out c.write_run.ensures in
    writing_done last (no_bytes encode_all (no_rows c.args.self.now.queue.now _ (omega arith)))
