-- What a turn reads is the next window, or the one refusal: the lemmas on `Windows`.
use Rattle.std.proofs.Common.{rules, ◌≡◌, ◌<◌, length, Err, ◌∙◌}
use Rattle.std.proofs.lemmas.List.{set-get_or}
use Rattle.queue_reader.proofs.Loops.{windows_none, windows_more, windows_stop, windows_done}
use Rattle.queue_reader.proofs.read_windows.Goals as goal

pub loop-window-init : goal.loop-window-init
loop-window-init c = (search rules, windows_none)

pub returns-in_err-window-clause-value : goal.returns-in_err-window-clause-value
returns-in_err-window-clause-value c =
    let (same, w) = c.loop-window.invariant in
    let read = c.in_err-window.ensures in
    let err : c.from_residual.result ≡ Err c.in_err-window.field-0.0 = search rules in
    let more : c.loop-window.window-index < length c.args.out.now = search rules in
    (read.0 ∙ same, rw err (windows_stop w more _ (rw same at read.1)).0)

pub returns-in_err-window-clause-out_after : goal.returns-in_err-window-clause-out_after
returns-in_err-window-clause-out_after c =
    let (same, w) = c.loop-window.invariant in
    let read = c.in_err-window.ensures in
    let more : c.loop-window.window-index < length c.args.out.now = search rules in
    set-get_or _ _ _ ∙ (windows_stop w more _ (rw same at read.1)).1

pub loop-window-preserved : goal.loop-window-preserved
loop-window-preserved c =
    let (same, w) = c.loop-window.invariant in
    let read = c.in_ok-window.ensures in
    let more : c.loop-window.window-index < length c.args.out.now = search rules in
    (read.0 ∙ same, windows_more w _ _ more (rw same at read.1))

pub returns-clause-value : goal.returns-clause-value
returns-clause-value c = (c.loop-window.invariant.0, (windows_done c.loop-window.invariant.1 (search rules)).0)

pub returns-clause-out_after : goal.returns-clause-out_after
returns-clause-out_after c = (windows_done c.loop-window.invariant.1 (search rules)).1
