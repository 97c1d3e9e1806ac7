-- A gap that is looked up is not never, and what a look relies on says that the kind's step can be counted.
use Rattle.std.proofs.Common.{refl, ◌∙◌, arith}
use Rattle.next_states.proofs.Candidates.{counted_at, may_follow}
use Rattle.next_states.proofs.Look.lower.Goals as goal
use Rattle.next_states.proofs.Look.lower.Goals.{then-this-ne0+in_default, else-this-ne0}

pub seconds_after-gap-requires : goal.seconds_after-gap-requires
seconds_after-gap-requires g c = (
  omega (arith, c.args.self.now.ready.row_in, c.requires.kind_in),
  elim c.if-this-ne0.branch [
    | then-this-ne0+in_default w ↦ λ n. w.in_default.not-Never (w.gap_after.ensures ∙ n)
    | else-this-ne0 w ↦ may_follow _ _ _ (c.requires.open (rw w.if-this-ne0.false refl))
  ],
)

pub step_cost-cost-requires-clause-counted : goal.step_cost-cost-requires-clause-counted
step_cost-cost-requires-clause-counted g c = counted_at c.args.self.now.ready c.args.x c.requires.kind_in.0 c.requires.kind_in.1 c.seconds_after-gap.ensures.gap_value
