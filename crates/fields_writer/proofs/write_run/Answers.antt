-- The value that is written is the next one.
use Rattle.std.proofs.Common.{◌≡◌, ◌+◌, ◌∷◌, drop, ap, ◌∙◌}
use Rattle.std.proofs.Math.ListN.{drop_of_length-le}
use Rattle.number.specs.Numbers.{encode}
use Rattle.fields_writer.proofs.Writing.{next_number, next_bytes, no_bytes, writing_room, writing_more, writing_done}
use Rattle.fields_writer.proofs.write_run.Given.{Over}
use Rattle.fields_writer.proofs.write_run.Goals as goal
use Rattle.fields_writer.proofs.write_run.Goals.{After-number}

next : (g : Over) (c : After-number g) → let i = c.loop-value.value-index in
    g.T.Held.numbers (drop i c.args.values.now) ≡ c.number.result ∷ g.T.Held.numbers (drop (i + 1) c.args.values.now)
next g c =
    next_number g.T.Held.numbers g.met.T.Held.numbers_more c.args.values.now c.loop-value.value-index _ _
    c.loop-value-test.true c.value-item.is c.number.ensures

pub number-requires-in-loop-value : goal.number-requires-in-loop-value
number-requires-in-loop-value g c = writing_room c.loop-value.invariant _ _ (next_bytes encode (next g c))

pub loop-value-preserved : goal.loop-value-preserved
loop-value-preserved g c =
    writing_more c.loop-value.invariant _ _ (next_bytes encode (next g (goal.at.loop-value-preserved g c).After-number)) _ c.number-in-loop-value.ensures

pub returns : goal.returns
returns g c =
    let none = ap g.T.Held.numbers (drop_of_length-le c.args.values.now c.loop-value-test.false) ∙ g.met.T.Held.numbers_none in
    writing_done c.loop-value.invariant (no_bytes encode none)
