-- The jobs of a plan message, as the reader's functions are cut.
use Rattle.std.specs.Prelude.{ℕ, List, []}
use Rattle.refusal.specs.declared.Reason.TheVariants.{Job}
use Rattle.number.specs.Readers.{Reader}
use Rattle.fields.specs.Fields.{field}
use Rattle.fields.specs.Orders.{in_order_before, followed_by}
use Rattle.plan.specs.Record.{fresh}

-- the job at the place after the earlier ones
abbrev pub job_after : ℕ → List ℕ → Reader ℕ
job_after t earlier = field 3 (fresh t earlier) Job

-- of the jobs at places 1 to T, those before the first refusal
abbrev pub order_before : ℕ → List ℕ → ℕ → List ℕ
order_before t = in_order_before (job_after t) followed_by t []
