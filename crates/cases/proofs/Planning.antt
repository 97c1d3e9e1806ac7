-- The worked calls of specs/Planning.antt, computed from the definitions.
use Rattle.std.specs.Prelude.{refl}
use mathlib.Core.List.{flat_map}
use Rattle.number.specs.Readers.{times}
use Rattle.number.specs.Numbers.{groups_at, groups, encode}
use Rattle.fields.specs.Lists.{tabulate}
use Rattle.fields.specs.Messages.{opens}
use Rattle.queue.specs.Reading.{placed, settings, tables, head, jobs, queue, read_queue}
use Rattle.plan.specs.Writing.{message}
use Rattle.sequencing.specs.Lists.{from, sum, weigh, filter}
use Rattle.sequencing.specs.States.{jobs_of, all_left, by_hand_in}
use Rattle.sequencing.specs.Least.{least, arg_least}
use Rattle.sequencing.specs.Recursion.{W, to_go, value, choice, walk, plan_cost, plan_kinds, plan_order}
use Rattle.sequencing.specs.Entries.{size, digits, entry_kind, entry_left}
use Rattle.sequencing.specs.Counts.{feasible_states}
use Rattle.problem.specs.PlaceRule.{allowed}
use Rattle.best_order.specs.Endings.{room_verdict, ending_of, ending, best_plan}
use Rattle.cases.specs.Planning.{Planning}

pub planning : Planning
unfolding read_queue queue head settings tables jobs placed opens groups_at groups encode tabulate flat_map message ending ending_of room_verdict best_plan plan_cost plan_kinds plan_order feasible_states value to_go choice walk by_hand_in least arg_least W all_left jobs_of sum weigh filter from size digits entry_kind entry_left allowed times
planning = record {
  A_plan = refl;
  A_eleven = refl;
  A_short = refl;
  A_cut = refl;
  B_plan = refl;
  C_plan = refl;
  D_plan = refl;
  E_none = refl;
  F_plan = refl;
  F_none = refl;
  G_plan = refl;
  G_one = refl;
  never_plan = refl;
  never_none = refl;
  H_plan = refl;
}
