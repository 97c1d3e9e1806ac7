-- The plan reader gives no refusals but its own.
-- Assumes nothing.
use Rattle.std.specs.Prelude.{Err}
use Prim.Native.Nat.{ℕ}
use mathlib.Core.Path.{◌≡◌}
use mathlib.Core.List.{List}
use native.Mathlib.Omega.{arith}
use Rattle.refusal.specs.declared.Reason.{Reason}
use Rattle.refusal.proofs.Reasons.{OfMessage}
use Rattle.plan.specs.Reading.{read_plan}
use Rattle.plan.specs.Refusals.{PlanRefusal, on_opening, on_ends, on_groups, on_edition, on_goal, on_jobs, on_job, on_left_over}
use Rattle.formats.proofs.Refusals.{arises_in}
use Rattle.formats.proofs.Readings.{refusal_arises}
use Rattle.plan_laws.proofs.Format.{plan_refusals, plan_message}
use Rattle.plan_laws.proofs.Theorems.{reads}

-- the refusals of plan messages are among 1, 2, 3, 4, 6, 12, 18, 14 ..
pub plan_refusal : (s : List ℕ) (r : Reason) → (read_plan s).verdict ≡ Err r → PlanRefusal r
plan_refusal s r e =
    arises_in PlanRefusal on_ends on_groups plan_refusals (on_opening, (on_left_over, (on_edition, (on_goal, (on_jobs, (on_job, tt)))))) r
    (refusal_arises plan_message reads s r e)

-- .. and none of them is planning's own
pub plan_of_message : (r : Reason) → PlanRefusal r → OfMessage r
plan_of_message r on_opening = omega arith
plan_of_message r on_ends = omega arith
plan_of_message r on_groups = omega arith
plan_of_message r on_edition = omega arith
plan_of_message r on_goal = omega arith
plan_of_message r on_jobs = omega arith
plan_of_message r on_job = omega arith
plan_of_message r on_left_over = omega arith
