-- The first x kinds have their entries, of whichever problem and layout the steps are of.
use Rattle.std.proofs.Common.{◌≤◌, length}
use Rattle.sequencing.specs.Problem.{Problem}
use Rattle.sequencing.specs.Entries.{k_at, entries}
use Rattle.layout.specs.declared.Layout.{Layout}
use Rattle.next_states.specs.Numbers.{Running, StepsOf}
use Rattle.next_states.specs.NextStates.{next_value}
use Rattle.next_states.proofs.Candidates.{Loading}
use Rattle.next_states.proofs.load_next_by.Given as goal

abbrev pub invariant-loop-x : goal.invariant-loop-x
invariant-loop-x l = (P : Problem) (of : Layout) → Running P of l.k → StepsOf of l.steps → entries P ≤ length l.table → Loading (next_value P l.table (k_at P l.k.index)) l.next l.x
