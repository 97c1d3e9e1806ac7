-- Small queues split over two cutters, computed from the definitions.
-- Assumes nothing.
use mathlib.Core.Path.{refl}
use Rattle.fields.specs.Fields.{all}
use Rattle.fields.specs.Lists.{tabulate}
use Rattle.queue.specs.Reading.{placed}
use Rattle.sequencing.specs.Lists.{from, sum, weigh, filter}
use Rattle.sequencing.specs.Orders.{cost, finishes, makespan, weighted_completion}
use Rattle.sequencing.specs.States.{jobs_of, all_left, by_hand_in}
use Rattle.sequencing.specs.Least.{least, arg_least}
use Rattle.sequencing.specs.Recursion.{W, to_go, value, choice, walk, plan_cost, plan_kinds, plan_order}
use Rattle.problem.specs.PlaceRule.{allowed}
use Rattle.splitting.specs.Splits.{split_cost}
use Rattle.splitting.specs.Shares.{share_order, is_early, first_share, second_share}
use Rattle.splitting.specs.Taken.{least_cost, least_counts, counts_cost, taken_cost, taken_counts, first_order, second_order}
use Rattle.splitting.specs.Covers.{covers}
use Rattle.splitting.specs.Cases.{Cases}

pub cases : Cases
unfolding taken_cost taken_counts first_order second_order split_cost counts_cost least_cost least_counts is_early first_share second_share share_order plan_cost plan_kinds plan_order value to_go choice walk by_hand_in least arg_least W all_left jobs_of sum weigh filter from cost finishes makespan weighted_completion tabulate placed allowed covers all
cases = record {
  A_cold = refl;
  A_after_1 = refl;
  A_after_2 = refl;
  B_cold = refl;
  B_after_1 = refl;
  B_after_2 = refl;
  A_five = refl;
  B_five = refl;
  one_job = refl;
  none_handed_in = refl;
  H_cold = refl;
  source_costs = refl;
  source_split = refl;
  apart_alone = refl;
  apart_two = refl;
  apart_warm = refl;
  apart_three = refl;
  apart_one = refl;
  apart_none = refl;
  first_cold = refl;
  second_cold = refl;
  both_cold = refl;
  not_1_first_split = refl;
  no_repeat_costs = refl;
  no_repeat_split = refl;
  no_pupils_costs = refl;
  no_pupils_split = refl;
  shift_enough = refl;
  shift_short = refl;
  first_place_uncovered = refl;
  first_place_unused = refl;
  last_place_uncovered = refl;
  last_place_enough = refl;
  no_places = refl;
}
