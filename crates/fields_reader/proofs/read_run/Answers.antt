-- A turn reads one number, or the first that is refused: the lemmas on `Running`.
use Rattle.std.proofs.Common.{rules, ◌≡◌, ◌<◌, length, Err, ◌∙◌}
use Rattle.std.proofs.lemmas.List.{set-get_or}
use Rattle.number.specs.Readers.{found, refused}
use Rattle.fields.specs.Fields.{field, within}
use Rattle.fields.proofs.Loops.{run_none, run_more, run_stop, run_done}
use Rattle.fields_reader.proofs.read_run.Goals as goal

pub loop-held-init : goal.loop-held-init
loop-held-init g c = (search rules, run_none)

pub returns-in_err-read_field-clause-value : goal.returns-in_err-read_field-clause-value
returns-in_err-read_field-clause-value g c =
    let stop : field 3 (within c.args.low c.args.high) c.args.why c.args.input.now.bytes.now c.loop-held.input.at ≡ refused c.in_err-read_field.field-0.0 = search rules in
    let same : c.from_residual.result ≡ Err c.in_err-read_field.field-0.0 = search rules in
    let more : c.loop-held.held-index < length c.args.out.now = search rules in
    (search rules, rw same (run_stop c.loop-held.invariant.1 g.met.T.Held.held_none more _ stop).0)

pub returns-in_err-read_field-clause-out_after : goal.returns-in_err-read_field-clause-out_after
returns-in_err-read_field-clause-out_after g c =
    let stop : field 3 (within c.args.low c.args.high) c.args.why c.args.input.now.bytes.now c.loop-held.input.at ≡ refused c.in_err-read_field.field-0.0 = search rules in
    let more : c.loop-held.held-index < length c.args.out.now = search rules in
    set-get_or _ _ _ ∙ (run_stop c.loop-held.invariant.1 g.met.T.Held.held_none more _ stop).1

pub loop-held-preserved : goal.loop-held-preserved
loop-held-preserved g c =
    let next : field 3 (within c.args.low c.args.high) c.args.why c.args.input.now.bytes.now c.loop-held.input.at ≡ found c.in_ok-read_field.field-0 c.read_field.new.input.at = search rules in
    let more : c.loop-held.held-index < length c.args.out.now = search rules in
    (search rules, run_more c.loop-held.invariant.1 g.met.T.Held.held_more _ _ _ more next c.hold.ensures)

pub returns-clause-value : goal.returns-clause-value
returns-clause-value g c = (c.loop-held.invariant.0, (run_done c.loop-held.invariant.1 g.met.T.Held.held_none (search rules)).0)

pub returns-clause-out_after : goal.returns-clause-out_after
returns-clause-out_after g c = (run_done c.loop-held.invariant.1 g.met.T.Held.held_none (search rules)).1
