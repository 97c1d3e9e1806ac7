-- What the queue writer promises: demand 2 of it, and that its refusals change nothing.
use Rattle.refusal.specs.Answers.{Written}
use Rattle.std.specs.Prelude.{ℕ, List}
use Rattle.fields.specs.Writers.{Writes}
use Rattle.queue.specs.declared.Queue.{Queue}
use Rattle.queue.specs.Record.{Valid, Same}
use Rattle.queue.specs.Reading.{read_queue}

-- of a record, the buffer before and after, and the answer
abbrev pub WritesQueue : Queue → (buffer buffer' : List ℕ) → Written → Type 0
WritesQueue = Writes 178 Valid Same (λ s. (read_queue s).verdict) (λ s. (read_queue s).queue)
