-- How much table to lend: the two numbers of a queue, and how asking for them ends.
use Rattle.queue.specs.Reading.{Reading}
use Rattle.refusal.specs.Answers.{TableSize, Verdict}
use Rattle.std.specs.Prelude.{Ok, Err}
use Rattle.refusal.specs.declared.Sizes.{Sizes}
use Rattle.queue.specs.declared.Queue.{Queue}
use Rattle.sequencing.specs.States.{all_left}
use Rattle.sequencing.specs.Entries.{entries}
use Rattle.problem.specs.OfQueue.{problem}
use Rattle.state_count.specs.StateCount.{most_feasible}

-- 01's N × P, and 02's sum over the counts of the kinds
unfoldable pub sizes : Queue → Sizes
sizes q = record { entries = entries (problem q); most_feasible = most_feasible (all_left (problem q)) }

-- the queue reader's refusal, or else both numbers
abbrev pub if_accepted : Verdict → Sizes → TableSize
if_accepted (Ok tt) s = Ok s
if_accepted (Err r) s = Err r

-- how asking of a message that was read so ends
unfoldable pub table_size : Reading → TableSize
table_size read = if_accepted read.verdict (sizes read.queue)
