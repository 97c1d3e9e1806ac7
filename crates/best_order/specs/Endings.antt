-- The planning call: how it ends, and what a call that plans answers and leaves. After reading, all is a function of the record and the lent lengths.
use Rattle.queue.specs.Reading.{Reading}
use Rattle.refusal.specs.Answers.{Answer, Verdict, Accepted}
use Rattle.std.specs.Prelude.{ℕ, cond, List, ◌≡◌, ltb, length, Ok, Err}
use Rattle.std.proofs.Math.Option.{Option, none, some}
use Rattle.std.proofs.lemmas.List.Edits.{sets}
use Rattle.refusal.specs.declared.Reason.{Reason}
use Rattle.refusal.specs.declared.Reason.TheVariants.{Buffer, Table, NoOrder}
use Rattle.queue.specs.declared.Queue.{Queue}
use Rattle.plan.specs.declared.Plan.{Plan}
use Rattle.plan.specs.Reading.{plan_of}
use Rattle.plan.specs.Writing.{message}
use Rattle.sequencing.specs.Recursion.{plan_cost, plan_order}
use Rattle.sequencing.specs.Entries.{entries, FilledTable}
use Rattle.sequencing.specs.Counts.{feasible_states}
use Rattle.problem.specs.OfQueue.{problem}

-- how a call that plans ends: refused by the message, by what is asked of it or by what is lent; 17, a queue has no such plan; or with the bytes of a
-- queue's plan
pub data Ending : Type 0 where
  refused : Reason → Ending
  unplannable : Queue → Ending
  planned : Queue → (plan : List ℕ) → Ending

-- a check comes first: its refusal, or else what follows
abbrev pub if_accepted : Verdict → Ending → Ending
if_accepted (Ok tt) e = e
if_accepted (Err r) e = refused r

-- of what is lent: 15 for a plan buffer under 77 bytes, then 16 for a table under N × P entries, carrying N × P
unfoldable pub room_verdict : (needed entries room : ℕ) → Verdict
room_verdict needed n room =
    cond (ltb room 77) (Err Buffer)
    (cond (ltb n needed) (Err (Table needed))
    Accepted)

-- the plan of a queue: its goal, the cost, the kept count, T and the recursion's order
unfoldable pub best_plan : Queue → ℕ → Plan
best_plan q c = plan_of q.goal c (feasible_states (problem q)) q.jobs (plan_order (problem q))

-- 17 where the recursion finds no cost
abbrev pub solved : Queue → Option ℕ → Ending
solved q none = unplannable q
solved q (some c) = planned q (message (best_plan q c))

-- after the message: 15, 16, then 17 or the plan
unfoldable pub ending_of : Queue → (entries room : ℕ) → Ending
ending_of q n room = if_accepted (room_verdict (entries (problem q)) n room) (solved q (plan_cost (problem q)))

-- how planning a message that was read so ends, with a table of n entries and a buffer of so many bytes
unfoldable pub ending : Reading → (entries room : ℕ) → Ending
ending read n room = if_accepted read.verdict (ending_of read.queue n room)

-- the answer: the number of the plan's bytes, or the one refusal
abbrev pub answer_of : Ending → Answer
answer_of (refused r) = Err r
answer_of (unplannable q) = Err NoOrder
answer_of (planned q plan) = Ok (length plan)

-- the buffer then: the plan, and bytes past it as they were; a refusal changes no byte
abbrev pub buffer_of : Ending → List ℕ → List ℕ
buffer_of (refused r) buffer = buffer
buffer_of (unplannable q) buffer = buffer
buffer_of (planned q plan) buffer = sets buffer 0 plan

-- what becomes of a lent table: no entry changes, or it is filled for a queue
pub data TableEnding : Type 0 where
  untouched : TableEnding
  filled_for : Queue → TableEnding

-- a plan and 17 fill the table, the other refusals change no entry
abbrev pub table_of : Ending → TableEnding
table_of (refused r) = untouched
table_of (unplannable q) = filled_for q
table_of (planned q plan) = filled_for q

-- the table before and after, entry by entry
abbrev pub LeavesTable : TableEnding → (table table' : List ℕ) → Type 0
LeavesTable untouched table table' = table' ≡ table
LeavesTable (filled_for q) table table' = FilledTable (problem q) table table'
