-- What the plan writer promises: demand 2 of it, and that its refusals change nothing.
use Rattle.refusal.specs.Answers.{Written}
use Rattle.std.specs.Prelude.{ℕ, List}
use Rattle.fields.specs.Writers.{Writes}
use Rattle.plan.specs.declared.Plan.{Plan}
use Rattle.plan.specs.Record.{Valid, Same}
use Rattle.plan.specs.Reading.{read_plan}

-- of a record, the buffer before and after, and the answer
abbrev pub WritesPlan : Plan → (buffer buffer' : List ℕ) → Written → Type 0
WritesPlan = Writes 77 Valid Same (λ s. (read_plan s).verdict) (λ s. (read_plan s).plan)
