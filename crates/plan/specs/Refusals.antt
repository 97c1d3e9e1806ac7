-- The refusals that a plan message can get.
use Rattle.refusal.specs.declared.Reason.{Reason}
use Rattle.refusal.specs.declared.Reason.TheVariants.{Opening, Ends, Groups, Edition, Goal, Jobs, Job, LeftOver}

-- "the plan reader gives 1, 2, 3, 4, 6, 12, 18, 14"
pub data PlanRefusal : Reason → Type 0 where
  on_opening : PlanRefusal Opening
  on_ends : PlanRefusal Ends
  on_groups : PlanRefusal Groups
  on_edition : PlanRefusal Edition
  on_goal : PlanRefusal Goal
  on_jobs : PlanRefusal Jobs
  on_job : PlanRefusal Job
  on_left_over : PlanRefusal LeftOver
