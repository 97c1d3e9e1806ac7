-- What a refusal of a call that plans changes of what is lent, by the answer alone.
use Rattle.std.specs.Prelude.{ℕ, List, ◌≢◌, ◌≡◌}
use Rattle.refusal.specs.Answers.{refusal_of}
use Rattle.queue.specs.Reading.{read_queue}
use Rattle.sequencing.specs.Entries.{FilledTable}
use Rattle.problem.specs.OfQueue.{problem}

-- a message, the table and the buffer before and after, and the answer R + 256 × V
pub record Changes (message table buffer table' buffer' : List ℕ) (answer : ℕ) : Type 0 where
  -- every refusal but 17 changes no lent byte or entry
  pub unchanged : refusal_of answer ≢ 0 → refusal_of answer ≢ 17 → (table' ≡ table) × (buffer' ≡ buffer)
  -- 17 fills the table only
  pub filled : refusal_of answer ≡ 17 → FilledTable (problem (read_queue message).queue) table table' × (buffer' ≡ buffer)
