-- The least of the kinds passed is held.
use Rattle.jobs_left.specs.Kinds.{factor}
use Rattle.next_states.specs.NextStates.{candidate}
use Rattle.next_states.proofs.Lowest.{Lowest}
use Rattle.next_states.proofs.Look.least_by.Given as goal

abbrev pub invariant-loop-x : goal.invariant-loop-x
invariant-loop-x g l = Lowest l.self.weight (candidate l.self.next.now l.self.gaps.now.numbers l.self.row (factor l.self.weight)) l.best l.x
