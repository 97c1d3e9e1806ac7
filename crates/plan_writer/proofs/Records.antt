-- What is written of a plan.
-- Assumes nothing.
use mathlib.Core.Path.{◌≡◌}
use mathlib.Core.List.{[], ◌∷◌, ◌++◌, append_assoc}
use Rattle.number.specs.Numbers.{encode}
use Rattle.fields.specs.Fields.{encode_all}
use Rattle.fields_writer.specs.Pieces.{front_bytes, counted_bytes}
use Rattle.plan.specs.declared.Plan.{Plan}
use Rattle.plan.specs.Record.{job_list}
use Rattle.plan.specs.Writing.{message}
use Rattle.plan_laws.proofs.JobLists.{job_list_length}

pub message_written : (p : Plan) → message p ≡ front_bytes (0x51 ∷ 0x50 ∷ []) p.goal p.cost ++ encode p.feasible_states ++ counted_bytes (job_list p)
unfolding message front_bytes counted_bytes
message_written p =
    rw job_list_length (append_assoc (front_bytes (0x51 ∷ 0x50 ∷ []) p.goal p.cost ++ encode p.feasible_states) (encode p.jobs) (encode_all (job_list p)))
