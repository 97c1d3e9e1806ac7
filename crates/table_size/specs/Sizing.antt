-- The contract of asking how much table to lend: the answer, and what its second number means for the message's own plans and for all queues like it.
use Rattle.std.specs.Prelude.{ℕ, ◌≤◌, List, ◌≡◌, take, Ok}
use Rattle.refusal.specs.Answers.{most_number, value_of, TableSize, Accepted}
use Rattle.queue.specs.Reading.{read_queue}
use Rattle.plan.specs.Reading.{read_plan}
use Rattle.best_order.specs.Planning.{Planning}
use Rattle.table_size.specs.Sizes.{table_size}
use Rattle.table_size.specs.Largest.{Largest}

-- a message, and the answer
pub record Sizing (message : List ℕ) (answer : TableSize) : Type 0 where
  pub answer_is : answer ≡ table_size (read_queue message)
  -- of an accepted message V is the largest kept count that the counts of its kinds allow
  pub largest : (read_queue message).verdict ≡ Accepted → Largest (read_queue message).queue (value_of (most_number answer))
  -- and no plan that planning the message writes, with any table and buffer, reports more
  pub reported : (table buffer table' buffer' : List ℕ) (n : ℕ) → Planning message table buffer table' buffer' (Ok n)
      → (read_plan (take n buffer')).plan.feasible_states ≤ value_of (most_number answer)
