-- `Lowest` holds at the start, and each turn is the better of the least so far and one kind more; a look ends early where no kind is left.
use Rattle.std.proofs.Common.{arith, ◌∙◌}
use Rattle.jobs_left.specs.Kinds.{factor}
use Rattle.next_states.proofs.Candidates.{candidate_fits, none_past}
use Rattle.next_states.proofs.Lowest.{lowest_none, lowest_held, lowest_more, lowest_past, lowest_answer}
use Rattle.next_states.proofs.Look.least_by.Goals as goal
use Rattle.next_states.proofs.Look.least_by.Goals.{else-loop-x-test, then-loop-x-test+then-none_past}

pub loop-x-init : goal.loop-x-init
loop-x-init g c = lowest_none c.cost_of.ensures

pub lower-best-requires-clause-cost_value : goal.lower-best-requires-clause-cost_value
lower-best-requires-clause-cost_value g c = lowest_held c.loop-x.invariant (candidate_fits c.args.self.now.ready)

pub loop-x-preserved : goal.loop-x-preserved
loop-x-preserved g c =
    lowest_more c.loop-x.invariant (candidate_fits c.args.self.now.ready) c.loop-x-test.true c.lower-best.ensures.cost_value_2 c.lower-best.ensures.kind_value

pub returns : goal.returns
returns g c =
    let look = c.args.self.now in
    c.then_some.ensures ∙ lowest_answer (lowest_past c.loop-x.invariant (elim c.loop-x-test.branch [
      | else-loop-x-test w ↦ λ y l u. absurd (omega arith)
      | then-loop-x-test+then-none_past w ↦
          none_past look.next.now look.gaps.now.numbers look.row (factor look.weight) c.loop-x.x (w.none_past.ensures w.if-none_past.true)
    ])) (candidate_fits look.ready) c.number.ensures
