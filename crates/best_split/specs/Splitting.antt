-- The splitting call's contract: its answer, what it leaves in the lent table and buffer, what its refusals change, and S-1's promise.
use Rattle.std.specs.Prelude.{ℕ, List, ◌≡◌}
use Rattle.refusal.specs.Answers.{answer_number, Answer}
use Rattle.best_order.specs.Endings.{answer_of, buffer_of, table_of, LeavesTable}
use Rattle.best_order.specs.Changes.{Changes}
use Rattle.best_split.specs.Endings.{split_ending_on}
use Rattle.best_split.specs.BestSplit.{BestSplit}

-- the message and the second start, the table and the buffer before and after, and the answer
pub record Splitting (message : List ℕ) (second : ℕ) (table buffer table' buffer' : List ℕ) (answer : Answer) : Type 0 where
  pub answer_is : answer ≡ answer_of (split_ending_on message second table buffer)
  pub leaves_table : LeavesTable (table_of (split_ending_on message second table buffer)) table table'
  pub leaves_buffer : buffer' ≡ buffer_of (split_ending_on message second table buffer) buffer
  pub changes : Changes message table buffer table' buffer' (answer_number answer)
  pub has_best_split : BestSplit message second table buffer table' buffer' (answer_number answer)
