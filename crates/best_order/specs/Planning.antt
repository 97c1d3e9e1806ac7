-- The planning call's contract: its answer, what it leaves in the lent table and buffer, what its refusals change, and demand 3.
use Rattle.std.specs.Prelude.{ℕ, List, ◌≡◌, length}
use Rattle.refusal.specs.Answers.{answer_number, Answer}
use Rattle.queue.specs.Reading.{read_queue}
use Rattle.best_order.specs.Endings.{Ending, ending, answer_of, buffer_of, table_of, LeavesTable}
use Rattle.best_order.specs.BestOrder.{BestOrder}
use Rattle.best_order.specs.Changes.{Changes}

-- how planning a message ends, with this table and this buffer lent
abbrev pub ending_on : (message table buffer : List ℕ) → Ending
ending_on message table buffer = ending (read_queue message) (length table) (length buffer)

-- the message, the table and the buffer before and after, and the answer
pub record Planning (message table buffer table' buffer' : List ℕ) (answer : Answer) : Type 0 where
  pub answer_is : answer ≡ answer_of (ending_on message table buffer)
  pub leaves_table : LeavesTable (table_of (ending_on message table buffer)) table table'
  pub leaves_buffer : buffer' ≡ buffer_of (ending_on message table buffer) buffer
  pub changes : Changes message table buffer table' buffer' (answer_number answer)
  pub best_order : BestOrder message table buffer table' buffer' (answer_number answer)
