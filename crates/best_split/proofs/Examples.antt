-- The worked examples of specs/Examples.antt, computed from the definitions.
use Rattle.std.specs.Prelude.{refl}
use mathlib.Core.List.{flat_map}
use Rattle.number.specs.Readers.{times}
use Rattle.number.specs.Numbers.{groups_at, groups, encode}
use Rattle.fields.specs.Fields.{all}
use Rattle.fields.specs.Lists.{tabulate}
use Rattle.fields.specs.Messages.{opens}
use Rattle.queue.specs.Reading.{placed, settings, tables, head, jobs, queue, read_queue}
use Rattle.split_plan.specs.Writing.{message}
use Rattle.sequencing.specs.Lists.{from, sum, weigh, filter}
use Rattle.sequencing.specs.States.{jobs_of, all_left, by_hand_in}
use Rattle.sequencing.specs.Least.{least, arg_least}
use Rattle.sequencing.specs.Recursion.{W, to_go, value, choice, walk, plan_cost, plan_kinds, plan_order}
use Rattle.sequencing.specs.Entries.{size}
use Rattle.problem.specs.PlaceRule.{allowed}
use Rattle.splitting.specs.Shares.{share_order, is_early, first_share, second_share}
use Rattle.splitting.specs.Taken.{least_cost, least_counts, counts_cost, taken_cost, taken_counts, first_order, second_order}
use Rattle.splitting.specs.Covers.{covers}
use Rattle.best_order.specs.Endings.{room_verdict, ending_of, ending}
use Rattle.best_split.specs.Endings.{bench_verdict, best_split, split_ending_of, split_ending}
use Rattle.best_split.specs.Examples.{Examples}

pub examples : Examples
unfolding read_queue queue head settings tables jobs placed opens groups_at groups encode tabulate flat_map message ending ending_of split_ending split_ending_of bench_verdict room_verdict best_split allowed covers all taken_cost taken_counts first_order second_order counts_cost least_cost least_counts is_early first_share second_share share_order plan_cost plan_kinds plan_order value to_go choice walk by_hand_in least arg_least W all_left jobs_of sum weigh filter from size times
examples = record {
  cold = refl;
  after_2 = refl;
  cut = refl;
  uncovered = refl;
  uncovered_first = refl;
  second_start = refl;
  second_start_first = refl;
  short = refl;
  eleven = refl;
  two_alone = refl;
  two_apart = refl;
  two_warm = refl;
  three_apart = refl;
  three_short = refl;
  three_eleven = refl;
}
