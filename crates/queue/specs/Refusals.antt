-- The refusals that a queue message can get.
use Rattle.refusal.specs.declared.Reason.{Reason}
use Rattle.refusal.specs.declared.Reason.TheVariants.{Opening, Ends, Groups, Edition, Kinds, Goal, Shift, Start, Gap, Pupils, Places, Jobs, JobKind, LeftOver}

-- 01's refusals 1 to 14
pub data QueueRefusal : Reason → Type 0 where
  on_opening : QueueRefusal Opening
  on_ends : QueueRefusal Ends
  on_groups : QueueRefusal Groups
  on_edition : QueueRefusal Edition
  on_kinds : QueueRefusal Kinds
  on_goal : QueueRefusal Goal
  on_shift : QueueRefusal Shift
  on_start : QueueRefusal Start
  on_gap : QueueRefusal Gap
  on_pupils : QueueRefusal Pupils
  on_places : QueueRefusal Places
  on_jobs : QueueRefusal Jobs
  on_job_kind : QueueRefusal JobKind
  on_left_over : QueueRefusal LeftOver
