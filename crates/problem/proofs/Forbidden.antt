-- Case A with successions forbidden, computed from the definitions.
-- Assumes nothing.
use mathlib.Core.List.{[], ◌∷◌, flat_map}
use mathlib.Core.Path.{refl}
use Rattle.sequencing.specs.Lists.{from, count, sum, weigh, filter}
use Rattle.sequencing.specs.Orders.{cost, finishes, makespan, weighted_completion}
use Rattle.sequencing.specs.States.{jobs_of, all_left, by_hand_in}
use Rattle.sequencing.specs.Least.{least, arg_least}
use Rattle.sequencing.specs.Recursion.{W, to_go, value, choice, walk, plan_cost, plan_kinds, plan_order}
use Rattle.sequencing.specs.Entries.{size, digits, entry_kind, entry_left}
use Rattle.sequencing.specs.Counts.{feasible_states}
use Rattle.fields.specs.Lists.{tabulate}
use Rattle.queue.specs.Reading.{placed}
use Rattle.problem.specs.PlaceRule.{allowed}
use Rattle.problem.specs.OfQueue.{problem}
use Rattle.problem.specs.Forbidden.{after_2, not_first, no_repeat, only_first, Forbidden}
use Rattle.problem.proofs.PermittedOrders.{permitted_orders, permitted_orders_lem}

pub forbidden : Forbidden
unfolding plan_cost plan_kinds plan_order feasible_states value to_go choice walk by_hand_in least arg_least W all_left jobs_of sum weigh filter from count size digits entry_kind entry_left cost finishes makespan weighted_completion tabulate placed allowed permitted_orders flat_map
forbidden = record {
  after_2_orders = permitted_orders_lem (problem after_2);
  after_2_plan = refl;
  after_2_kept = refl;
  long_costs = refl;
  long_kept = refl;
  not_first_orders = permitted_orders_lem (problem not_first);
  not_first_plan = refl;
  not_first_kept = refl;
  none_first_cold = refl;
  none_first_kept = refl;
  none_first_warm = refl;
  none_first_finishes = refl;
  no_repeat_orders = permitted_orders_lem (problem (no_repeat 1 (3 ∷ 1 ∷ [])));
  no_repeat_plan = refl;
  no_repeat_kept = refl;
  only_first_orders = permitted_orders_lem (problem only_first);
  only_first_none = refl;
  only_first_kept = refl;
  no_pupils_plan = refl;
  no_pupils_never = refl;
  no_pupils_kept = refl;
}
