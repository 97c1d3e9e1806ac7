-- What is written of a split plan.
-- Assumes nothing.
use mathlib.Core.Path.{◌≡◌}
use mathlib.Core.List.{[], ◌∷◌, ◌++◌}
use Rattle.fields_writer.specs.Pieces.{front_bytes, counted_bytes}
use Rattle.split_plan.specs.declared.SplitPlan.{SplitPlan}
use Rattle.split_plan.specs.Record.{job_list}
use Rattle.split_plan.specs.Writing.{message}
use Rattle.split_plan.proofs.Cutters.{job_list_length}

pub message_written : (p : SplitPlan)
    → message p ≡ front_bytes (0x51 ∷ 0x32 ∷ []) p.goal p.cost ++ counted_bytes (job_list p.first) ++ counted_bytes (job_list p.second)
unfolding message front_bytes counted_bytes
message_written p = rw (job_list_length p.first, job_list_length p.second)
