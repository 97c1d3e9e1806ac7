-- Writing a plan message.
use Rattle.refusal.specs.Answers.{Verdict, Written}
use Rattle.std.specs.Prelude.{ℕ, ◌-◌, ◌^◌, Bool, List, [], ◌∷◌, ◌++◌, length}
use Rattle.refusal.specs.declared.Reason.TheVariants.{Groups, Goal, Jobs, Job}
use Rattle.number.specs.Numbers.{encode}
use Rattle.fields.specs.Fields.{within, encode_all}
use Rattle.fields.specs.Messages.{check, ◌before◌, write_answer, buffer_after}
use Rattle.fields.specs.Orders.{all_in_order, followed_by}
use Rattle.plan.specs.declared.Plan.{Plan}
use Rattle.plan.specs.Record.{fresh, job_list}

-- bytes 51 50, then edition 1, goal, cost, kept count, T, then the job at each place
unfoldable pub message : Plan → List ℕ
message p =
    (0x51 ∷ 0x50 ∷ []) ++ encode 1 ++ encode p.goal ++ encode p.cost ++ encode p.feasible_states ++ encode p.jobs
    ++ encode_all (job_list p)

-- each job is fresh at its place, after those at the earlier places
abbrev pub all_fresh : ℕ → List ℕ → Bool
all_fresh t jobs = all_in_order (fresh t) followed_by [] jobs

-- the record judged in message order: 6, 3 for a cost or count above 2^42 − 1, 12, 18
unfoldable pub judge : Plan → Verdict
judge p =
    check (within 1 2 p.goal) Goal
    before check (within 0 (2 ^ 42 - 1) p.cost) Groups
    before check (within 0 (2 ^ 42 - 1) p.feasible_states) Groups
    before check (within 0 60 p.jobs) Jobs
    before check (all_fresh p.jobs (job_list p)) Job

-- a buffer of at least 77 bytes is asked
unfoldable pub write_plan : Plan → ℕ → Written
write_plan p room = write_answer 77 (judge p) room (message p)

-- the buffer then
unfoldable pub written_plan : Plan → List ℕ → List ℕ
written_plan p buffer = buffer_after (write_plan p (length buffer)) (message p) buffer
