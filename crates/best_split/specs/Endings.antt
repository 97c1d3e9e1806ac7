-- The splitting call: how it ends. After reading, all is a function of the record, the second cutter's start kind and the lent lengths.
use Rattle.refusal.specs.Answers.{Verdict, Accepted}
use Rattle.std.specs.Prelude.{ℕ, not, cond, List, ltb, length, Ok, Err}
use Rattle.std.proofs.Math.Option.{Option, none, some}
use Rattle.refusal.specs.declared.Reason.TheVariants.{Uncovered, SecondStart}
use Rattle.queue.specs.declared.Queue.{Queue}
use Rattle.queue.specs.Reading.{Reading, read_queue}
use Rattle.split_plan.specs.declared.SplitPlan.{SplitPlan}
use Rattle.split_plan.specs.Record.{split_of}
use Rattle.split_plan.specs.Writing.{message}
use Rattle.sequencing.specs.Entries.{entries}
use Rattle.problem.specs.OfQueue.{problem}
use Rattle.splitting.specs.Taken.{taken_cost, first_order, second_order}
use Rattle.splitting.specs.Covers.{covers}
use Rattle.best_order.specs.Endings.{Ending, unplannable, planned, if_accepted, room_verdict}

-- of two cutters: 19 where the shift plus 1 is under T or a kind's allowed places do not cover 1 to T, then 20 for a second start over N
unfoldable pub bench_verdict : Queue → (second : ℕ) → Verdict
bench_verdict q s =
    cond (not (covers q)) (Err Uncovered)
    (cond (ltb q.kinds s) (Err SecondStart)
    Accepted)

-- the split plan of a queue: its goal, the cost, and both cutters' jobs in the split taken
unfoldable pub best_split : Queue → (second cost : ℕ) → SplitPlan
best_split q s c = split_of q.goal c (first_order (problem q) s) (second_order (problem q) s)

-- 17 where no split has a cost
abbrev pub divided : Queue → (second : ℕ) → Option ℕ → Ending
divided q s none = unplannable q
divided q s (some c) = planned q (message (best_split q s c))

-- as for planning: 15, 16, then 17 or the split plan
abbrev pub divided_in : Queue → (second entries room : ℕ) → Ending
divided_in q s n room = if_accepted (room_verdict (entries (problem q)) n room) (divided q s (taken_cost (problem q) s))

-- after the message: 19, 20, then as for planning
unfoldable pub split_ending_of : Queue → (second entries room : ℕ) → Ending
split_ending_of q s n room = if_accepted (bench_verdict q s) (divided_in q s n room)

-- how splitting a message that was read so ends, with a table of n entries and a buffer of so many bytes
unfoldable pub split_ending : Reading → (second entries room : ℕ) → Ending
split_ending read s n room = if_accepted read.verdict (split_ending_of read.queue s n room)

-- how splitting a message ends, with this table and this buffer lent
abbrev pub split_ending_on : (message : List ℕ) (second : ℕ) (table buffer : List ℕ) → Ending
split_ending_on message s table buffer = split_ending (read_queue message) s (length table) (length buffer)
