-- Each turn and the last byte are lemmas on `Writing`.
use Rattle.std.proofs.Common.{arith}
use Rattle.number.proofs.Writing.{writing_more, writing_last, writing_within}
use Rattle.number.proofs.Output.number.Goals as goal

pub bounds-self-self : goal.bounds-self-self
bounds-self-self c = writing_within _ _ _ _ _ _ c.loop-rest.invariant.1 c.requires

pub loop-rest-preserved : goal.loop-rest-preserved
loop-rest-preserved c =
    (c.loop-rest.invariant.0, rw c.byte_more.ensures (writing_more _ _ _ _ _ _ c.loop-rest.invariant.1 c.loop-rest-test.true))

pub bounds-self-self-2 : goal.bounds-self-self-2
bounds-self-self-2 c = writing_within _ _ _ _ _ _ c.loop-rest.invariant.1 c.requires

pub returns : goal.returns
returns c =
    let (at, bytes) = writing_last _ _ _ _ _ _ c.loop-rest.invariant.1 (omega (arith, c.loop-rest-test.false)) in
    (c.loop-rest.invariant.0, at, bytes)
