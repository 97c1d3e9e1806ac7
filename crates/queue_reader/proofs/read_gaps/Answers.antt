-- What a turn reads is the next row: `Rows` goes on, or the run ends there, and so it does at the last row.
use Rattle.std.proofs.Common.{◌≡◌, ◌≤◌, Err, rules, arith, ◌∙◌}
use Rattle.queue_reader.proofs.Loops.{rows_none, rows_more, rows_last, rows_stop}
use Rattle.queue_reader.proofs.read_gaps.Goals as goal

pub loop-row-init : goal.loop-row-init
loop-row-init c = (search rules, rows_none c.told-gaps)

pub loop-row-preserved : goal.loop-row-preserved
loop-row-preserved c =
    let (same, w) = c.loop-row.invariant in
    let h : c.loop-row.row ≤ c.args.kinds = omega (arith, c.loop-row-test.true) in
    let read = c.in_ok-read_run.ensures.value in
    (read.0 ∙ same, rows_more w _ c.row_start-from.ensures h c.requires _ (rw same at c.read_run.ensures.out_after) _ (rw same at read.1))

pub returns-in_err-read_run-clause-value : goal.returns-in_err-read_run-clause-value
returns-in_err-read_run-clause-value c =
    let (same, w) = c.loop-row.invariant in
    let h : c.loop-row.row ≤ c.args.kinds = omega (arith, c.loop-row-test.true) in
    let read = c.in_err-read_run.ensures.value in
    let err : c.from_residual.result ≡ Err c.in_err-read_run.field-0.0 = search rules in
    (read.0 ∙ same, rw err (rows_stop w _ c.row_start-from.ensures h c.requires _ (rw same at c.read_run.ensures.out_after) _ (rw same at read.1)).0)

pub returns-in_err-read_run-clause-gaps_after : goal.returns-in_err-read_run-clause-gaps_after
returns-in_err-read_run-clause-gaps_after c =
    let (same, w) = c.loop-row.invariant in
    let h : c.loop-row.row ≤ c.args.kinds = omega (arith, c.loop-row-test.true) in
    let read = c.in_err-read_run.ensures.value in
    (rows_stop w _ c.row_start-from.ensures h c.requires _ (rw same at c.read_run.ensures.out_after) _ (rw same at read.1)).1

pub returns-in_ok-read_run-clause-value : goal.returns-in_ok-read_run-clause-value
returns-in_ok-read_run-clause-value c =
    let (same, w) = c.loop-row.invariant in
    let h : c.loop-row.row ≤ c.args.kinds = omega (arith, c.loop-row-test.true) in
    let read = c.in_ok-read_run.ensures.value in
    (read.0 ∙ same, (rows_last w _ c.row_start-from.ensures h c.requires _ (rw same at c.read_run.ensures.out_after) _ (rw same at read.1) (omega arith)).0)

pub returns-in_ok-read_run-clause-gaps_after : goal.returns-in_ok-read_run-clause-gaps_after
returns-in_ok-read_run-clause-gaps_after c =
    let (same, w) = c.loop-row.invariant in
    let h : c.loop-row.row ≤ c.args.kinds = omega (arith, c.loop-row-test.true) in
    let read = c.in_ok-read_run.ensures.value in
    (rows_last w _ c.row_start-from.ensures h c.requires _ (rw same at c.read_run.ensures.out_after) _ (rw same at read.1) (omega arith)).1
