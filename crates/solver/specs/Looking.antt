-- A look into a filled table: from a row, with any jobs left.
use Rattle.std.specs.Prelude.{List, cond, ℕ, eqb, Option as Answer}
use Rattle.units.specs.Costs.{cost_in}
use Rattle.queue.specs.declared.Queue.{Queue}
use Rattle.sequencing.specs.Lists.{sum}
use Rattle.sequencing.specs.Least.{arg_least}
use Rattle.sequencing.specs.Recursion.{cost_to_go, choice}
use Rattle.problem.specs.OfQueue.{problem}
use Rattle.next_states.specs.declared.Least.{Least}
use Rattle.next_states.specs.NextStates.{least_answer}

-- the kind that the recursion takes next from row L with k left; 0 where nothing is left
abbrev pub next_kind : Queue → (L : ℕ) → (k : List ℕ) → ℕ
next_kind q L k = cond (eqb (sum k) 0) 0 (arg_least (choice (problem q) L k) q.kinds)

-- what is found from row L with k left: the least cost of what is left, in the goal's unit, and that kind; nothing where no order is permitted
abbrev pub look : Queue → (L : ℕ) → (k : List ℕ) → Answer Least
look q L k = least_answer (cost_in q.goal) (next_kind q L k) (cost_to_go (problem q) L k)
