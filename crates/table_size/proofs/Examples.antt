-- The worked examples of specs/Examples.antt, computed from the definitions.
use Rattle.std.specs.Prelude.{refl}
use Rattle.number.specs.Readers.{times}
use Rattle.number.specs.Numbers.{groups_at, groups}
use Rattle.fields.specs.Lists.{tabulate}
use Rattle.fields.specs.Messages.{opens}
use Rattle.queue.specs.Reading.{placed, settings, tables, head, jobs, queue, read_queue}
use Rattle.sequencing.specs.Lists.{from, sum, filter}
use Rattle.sequencing.specs.States.{jobs_of, all_left}
use Rattle.sequencing.specs.Entries.{size}
use Rattle.state_count.specs.StateCount.{others, most_feasible}
use Rattle.table_size.specs.Sizes.{sizes, table_size}
use Rattle.table_size.specs.Examples.{Examples}

pub examples : Examples
unfolding table_size sizes most_feasible others size sum from filter tabulate jobs_of all_left read_queue queue settings tables head jobs placed opens times groups_at groups
examples = (refl, refl, refl, refl, refl)
