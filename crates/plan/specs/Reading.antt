-- Reading a plan message: 01's checks, one step a row of its table, in message order.
use Rattle.refusal.specs.Answers.{Verdict, Accepted}
use Rattle.std.specs.Prelude.{ℕ, List, [], Err}
use Rattle.refusal.specs.declared.Reason.TheVariants.{Edition, Goal, Jobs, Job}
use Rattle.number.specs.Readers.{Found, found, refused, Reader, ◌>>=◌, ◌>>◌, give}
use Rattle.number.specs.Numbers.{number}
use Rattle.fields.specs.Fields.{field, within}
use Rattle.fields.specs.Lists.{filled}
use Rattle.fields.specs.Messages.{opening, end}
use Rattle.fields.specs.Orders.{in_order, followed_by}
use Rattle.plan.specs.declared.Plan.{Plan}
use Rattle.plan.specs.Record.{fresh, job_list}

-- the job at each place, 1 to T, each judged after those at the earlier places
abbrev pub order : ℕ → Reader (List ℕ)
order t = in_order (λ earlier. field 3 (fresh t earlier) Job) followed_by t []

-- the record with these numbers and these jobs, and 0 past them
abbrev pub plan_of : ℕ → ℕ → ℕ → ℕ → List ℕ → Plan
plan_of goal cost states t jobs = record { goal = goal; cost = cost; feasible_states = states; jobs = t; order = filled 60 jobs }

-- "records read hold 0 past N and T": a record up to T, and 0 past it
abbrev pub cleared : Plan → Plan
cleared p = plan_of p.goal p.cost p.feasible_states p.jobs (job_list p)

-- the whole message
unfoldable pub plan : Reader Plan
plan = do
  opening 0x51 0x50
  field 3 (within 1 1) Edition
  goal ← field 3 (within 1 2) Goal
  cost ← number 6
  states ← number 6
  t ← field 3 (within 0 60) Jobs
  jobs ← order t
  end
  give (plan_of goal cost states t jobs)

-- the record of a refused message
abbrev pub blank : Plan
blank = plan_of 0 0 0 0 []

-- what reading a plan message gives: on a refusal the record is all 0
pub record Reading : Type 0 where
  pub verdict : Verdict
  pub plan : Plan

-- a message is accepted when its reader refuses nothing in it
abbrev pub as_reading : Found Plan → Reading
as_reading (found p n) = record { verdict = Accepted; plan = p }
as_reading (refused r) = record { verdict = Err r; plan = blank }

-- what reading bytes gives
unfoldable pub read_plan : List ℕ → Reading
read_plan s = as_reading (plan s 0)
