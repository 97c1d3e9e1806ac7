-- The settings, the gap rows, the weights, then the allowed places.
use Rattle.std.proofs.Common.{◌≡◌, ◌≤◌, ◌+◌, ℕ, List, replicate, rules, ap, ◌∙◌}
use Rattle.refusal.specs.declared.Reason.TheVariants.{Kinds, Goal, Shift, Start}
use Rattle.number.specs.Readers.{found, times}
use Rattle.fields.specs.Fields.{field, within}
use Rattle.fields.proofs.Loops.{behind_found, front_found, numbers_stored}
use Rattle.queue.specs.declared.Window.{Window}
use Rattle.queue.specs.Record.{no_window}
use Rattle.queue.specs.Reading.{window, placed}
use Rattle.queue_reader.proofs.Loops.{gap_field, rows_found, windows_stored}
use Rattle.queue_reader.proofs.Records.{weight_field, head_read}
use Rattle.queue_reader.proofs.read_head.Goals as goal

pub returns-clause-value : goal.returns-clause-value
returns-clause-value c =
    let s = c.args.input.now.bytes.now in
    let n = c.in_ok-kinds.kinds in
    let few : n ≤ 5 = search rules in
    let kinds : field 3 (within 1 5) Kinds s c.args.input.now.at ≡ found n c.read_field.new.input.at = search rules in
    let aim : field 3 (within 1 2) Goal s c.read_field.new.input.at ≡ found c.in_ok-goal.goal c.read_field-2.new.input.at = search rules in
    let shift : field 3 (within 0 60) Shift s c.read_field-2.new.input.at ≡ found c.in_ok-max_shift.max_shift c.read_field-3.new.input.at = search rules in
    let start : field 3 (within 0 n) Start s c.read_field-3.new.input.at ≡ found c.in_ok-start.start c.read_field-4.new.input.at = search rules in
    let here : c.read_field-4.new.input.bytes ≡ c.args.input.now.bytes = search rules in
    let gaps = c.in_ok-read_gaps.ensures.value in
    let (rows, e) = behind_found (times (n + 1) (times n gap_field) s c.read_field-4.new.input.at) _ (rw here at gaps.1) in
    let gaps_are = rw here at c.read_gaps.ensures.gaps_after ∙ ap (placed (replicate 30 0) 0) (rows_found (n + 1) n gap_field s _ rows _ e) in
    let run = c.in_ok-read_run.ensures.value in
    let past_rows = gaps.0 ∙ here in
    let zeros : List ℕ = replicate 5 0 in
    let (ws, g) = front_found n zeros few (λ k. times k weight_field s c.read_gaps.new.input.at) _ (rw past_rows at run.1) in
    let weights_are = numbers_stored n zeros _ few weight_field s _ (rw past_rows at c.read_run.ensures.out_after) ws _ g in
    let read = c.in_ok-read_windows.ensures.value in
    let past_weights = run.0 ∙ past_rows in
    let none : List Window = replicate 5 no_window in
    let (windows, h) = front_found n none few (λ k. times k window s c.read_run.new.input.at) _ (rw past_weights at read.1) in
    let windows_are = windows_stored n none _ few s _ (rw past_weights at c.read_windows.ensures.out_after) windows _ h in
    (read.0 ∙ past_weights, head_read _ _ _ _ _ _ _ s _ _ kinds _ aim _ shift _ start rows _ e ws _ g windows _ h gaps_are weights_are windows_are)
