-- What is left to write is the values from the next one on.
use Rattle.std.proofs.Common.{drop}
use Rattle.fields.specs.Fields.{encode_all}
use Rattle.fields_writer.proofs.Writing.{Writing}
use Rattle.fields_writer.proofs.write_run.Given as goal

abbrev pub invariant-loop-value : goal.invariant-loop-value
invariant-loop-value g l =
    let bytes = g.T.Held.numbers in
    Writing (encode_all (bytes l.values)) l.initial.out (encode_all (bytes (drop l.value-index l.values))) l.out
