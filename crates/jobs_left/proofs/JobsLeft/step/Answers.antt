-- One job of the first kind more is a step that ends at once; a carry is the callee's.
use Rattle.std.proofs.Common.{◌≡◌, ◌<◌, length, get_or, arith}
use Rattle.jobs_left.specs.Kinds.{no_kind}
use Rattle.jobs_left.proofs.Stepping.{stepping_none, stepping_out}
use Rattle.jobs_left.proofs.Sums.{Carried, carried_out}
use Rattle.jobs_left.proofs.JobsLeft.step.Goals as goal
use Rattle.jobs_left.proofs.JobsLeft.step.Goals.{Then-self-first}

first : (c : Then-self-first) → (0 < length c.args.kinds.now) × (c.in-Some.first.now ≡ get_or c.args.kinds.now 0 no_kind)
first c = let is = c.in-Some.ensures.item.3 in (is.0, is.1 no_kind)

pub returns-then-self-first-clause-left_after : goal.returns-then-self-first-clause-left_after
returns-then-self-first-clause-left_after c =
    let (some, is) = first (goal.at.returns-then-self-first-clause-left_after c).Then-self-first in
    (stepping_out (omega arith) stepping_none some (rw is at c.if-self-first.true)).left_after

pub returns-then-self-first-clause-summed_after : goal.returns-then-self-first-clause-summed_after
returns-then-self-first-clause-summed_after c =
    let (some, is) = first (goal.at.returns-then-self-first-clause-summed_after c).Then-self-first in
    let sums : Carried c.args.kinds.now c.args.self.now c.args.self.now = record { sums = c.requires.summed; fewer = omega arith; lighter = omega arith } in
    rw (c.from.ensures, is) (carried_out (omega arith) sums 0 some)
