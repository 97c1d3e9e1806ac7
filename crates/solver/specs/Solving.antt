-- Solving a queue: what is found from the start.
use Rattle.std.specs.Prelude.{Option as Answer}
use Rattle.units.specs.Costs.{cost_in}
use Rattle.queue.specs.declared.Queue.{Queue}
use Rattle.sequencing.specs.States.{all_left}
use Rattle.sequencing.specs.Recursion.{plan_cost}
use Rattle.problem.specs.OfQueue.{problem}
use Rattle.next_states.specs.declared.Least.{Least}
use Rattle.next_states.specs.NextStates.{least_answer}
use Rattle.solver.specs.Looking.{next_kind}

-- the first choice, with L = s and all jobs left: the plan's cost in the goal's unit, and the kind that the plan takes first, 0 where there are no jobs;
-- nothing where there is no plan
abbrev pub first_choice : Queue → Answer Least
first_choice q = least_answer (cost_in q.goal) (next_kind q q.start (all_left (problem q))) (plan_cost (problem q))
