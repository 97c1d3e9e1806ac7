-- Where the job may stand there, the value is the number of the least that a look finds.
use Rattle.std.proofs.Common.{ℕ, ◌≡◌, refl, ap, ◌∙◌}
use Rattle.std.specs.Prelude.{Some, None, Option as Answer}
use Rattle.std.proofs.Math.Option.{Option, none, some}
use Rattle.units.specs.Costs.{number_of}
use Rattle.jobs_left.specs.declared.StepWeight.{StepWeight}
use Rattle.next_states.specs.declared.Least.{Least}
use Rattle.next_states.specs.NextStates.{answer, cost_by, least_answer}
use Rattle.next_states.proofs.Units.{number_by}
use Rattle.filling.proofs.state_value.Goals as goal

abbrev number_in : Answer Least → Answer ℕ
number_in None = None
number_in (Some r) = Some (number_of r.cost)

numbers : (w : StepWeight) (kind : ℕ) (v : Option ℕ) → number_in (least_answer (cost_by w) kind v) ≡ answer v
numbers w kind none = refl
numbers w kind (some c) = ap Some (number_by w c)

pub returns : goal.returns
returns g c = rw c.if-not-permitted.false (ap Some c.number.ensures ∙ ap number_in c.in_ok-least.ensures ∙ numbers _ _ _)
