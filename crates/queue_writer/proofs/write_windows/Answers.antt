-- The window that is written is the next one.
use Rattle.fields_writer.proofs.Writing.{next_bytes, no_bytes, writing_room, writing_more, writing_done}
use Rattle.queue.specs.Writing.{encode_window}
use Rattle.queue_writer.proofs.Arrays.{next_window, no_windows}
use Rattle.queue_writer.proofs.write_windows.Goals as goal

pub write_window-requires : goal.write_window-requires
write_window-requires c =
    let next = next_window c.args.windows.now c.loop-window.window-index c.loop-window-test.true in
    writing_room c.loop-window.invariant _ _ (next_bytes encode_window next)

pub loop-window-preserved : goal.loop-window-preserved
loop-window-preserved c =
    let next = next_window c.args.windows.now c.loop-window.window-index c.loop-window-test.true in
    writing_more c.loop-window.invariant _ _ (next_bytes encode_window next) _ c.write_window.ensures

pub returns : goal.returns
returns c = writing_done c.loop-window.invariant (no_bytes encode_window (no_windows c.args.windows.now _ c.loop-window-test.false))
