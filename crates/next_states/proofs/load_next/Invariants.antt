-- The first x kinds have their entries, of whichever problem the arrays number.
use Rattle.sequencing.specs.Problem.{Problem}
use Rattle.sequencing.specs.Entries.{k_at}
use Rattle.next_states.specs.Numbers.{Running}
use Rattle.next_states.specs.NextStates.{next_value}
use Rattle.next_states.proofs.Candidates.{Loading}
use Rattle.next_states.proofs.load_next.Given as goal

abbrev pub invariant-loop-x : goal.invariant-loop-x
invariant-loop-x l = (P : Problem) → Running P l.layout l.k → Loading (next_value P l.table (k_at P l.k.index)) l.next l.x
