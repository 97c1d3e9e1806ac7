-- The worked examples of specs/Examples.antt, computed from the definitions.
use Rattle.std.specs.Prelude.{refl}
use mathlib.Core.List.{flat_map}
use Rattle.number.specs.Readers.{times}
use Rattle.number.specs.Numbers.{groups_at, groups, encode}
use Rattle.fields.specs.Fields.{all}
use Rattle.fields.specs.Lists.{tabulate}
use Rattle.fields.specs.Messages.{opens}
use Rattle.queue.specs.Reading.{placed, settings, tables, head, jobs, queue, read_queue}
use Rattle.queue.specs.Writing.{head_bytes, job_bytes, message, judge_settings, judge_tables, judge_head, judge_jobs, judge, write_queue, written_queue}
use Rattle.queue.specs.Examples.{Examples}

pub examples : Examples
unfolding groups_at groups encode opens times tabulate flat_map all placed settings tables head jobs queue read_queue head_bytes job_bytes message judge_settings judge_tables judge_head judge_jobs judge write_queue written_queue
examples = (refl, refl, refl, refl, refl, refl, refl, refl, refl, refl, refl, refl, refl, refl, refl, refl, refl, refl, refl, refl, refl, refl, refl, refl, refl, refl, refl, refl, refl, refl, refl, refl, refl, refl, refl, refl, refl, refl, refl, refl, refl, refl, refl)
