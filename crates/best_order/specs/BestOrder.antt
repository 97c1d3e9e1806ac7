-- The best order: what planning promises of every accepted message, with a table of at least N × P entries and a buffer of at least 77 bytes,
-- whatever they hold.
use Rattle.refusal.specs.Answers.{Accepted}
use Rattle.std.specs.Prelude.{ℕ, ◌*◌, ◌≤◌, List, map, ◌↔◌, ◌≢◌, ◌≡◌, length, get_or, take, drop}
use Rattle.queue.specs.Reading.{read_queue}
use Rattle.plan.specs.Record.{job_list}
use Rattle.plan.specs.Reading.{Reading, read_plan}
use Rattle.sequencing.specs.Problem.{Problem, kind}
use Rattle.sequencing.specs.Orders.{IsOrder, Permitted, cost}
use Rattle.sequencing.specs.States.{all_left, IsPair}
use Rattle.sequencing.specs.Recursion.{value, plan_order}
use Rattle.sequencing.specs.Ties.{TieRule}
use Rattle.sequencing.specs.Entries.{entries, number, stored}
use Rattle.sequencing.specs.Counts.{CountsFeasible}
use Rattle.problem.specs.OfQueue.{problem}

-- what a plan holds, as the plan reader reads it, for a queue with problem P
pub record BestPlan (P : Problem) (read : Reading) : Type 0 where
  -- it is accepted, and of the queue's goal
  pub accepted : read.verdict ≡ Accepted
  pub goal : read.plan.goal ≡ P.goal
  -- its order is the recursion's ..
  pub recursion : job_list read.plan ≡ plan_order P
  -- .. by the tie rule: at each place the smallest kind that reaches the least
  pub ties : TieRule P P.start (all_left P) (map (kind P) (job_list read.plan))
  -- it has each job at one place, and one job at each place
  pub order : IsOrder P (job_list read.plan)
  -- it is permitted
  pub permitted : Permitted P (job_list read.plan)
  -- every permitted order, those that exchange jobs of one kind included, costs at least as much
  pub best : (o : List ℕ) → IsOrder P o → Permitted P o → cost P (job_list read.plan) ≤ cost P o
  -- the stated cost is that order's own
  pub own_cost : read.plan.cost ≡ cost P (job_list read.plan)
  -- the kept count is the number of states that 01 calls kept
  pub kept : CountsFeasible P read.plan.feasible_states

-- the message's problem, the table and the buffer before and after, and the answer R + 256 × V
pub record Best (P : Problem) (table buffer table' buffer' : List ℕ) (answer : ℕ) : Type 0 where
  -- 17 exactly when no order of the jobs is permitted
  pub none_permitted : (answer ≡ 17) ↔ ((o : List ℕ) → IsOrder P o → Permitted P o → ⊥)
  -- otherwise n bytes are written, and they are the best plan
  pub otherwise : answer ≢ 17 → (n : ℕ) × (answer ≡ 256 * n) × (n ≤ length buffer') × BestPlan P (read_plan (take n buffer'))
  -- bytes behind the plan, and on 17 all bytes, are as before
  pub behind : (n : ℕ) → answer ≡ 256 * n → drop n buffer' ≡ drop n buffer
  pub unwritten : answer ≡ 17 → buffer' ≡ buffer
  -- either way each entry holds the value of its state if kept, else 2^64 − 1, also where k_L = K_L ..
  pub entry_of : (L : ℕ) (k : List ℕ) → IsPair P L k → get_or table' (number P L k) 0 ≡ stored (value P L k)
  -- .. and entries from N × P on are as before
  pub past : (n : ℕ) → entries P ≤ n → get_or table' n 0 ≡ get_or table n 0

-- demand 3, of a message, what is lent before and after, and the answer
abbrev pub BestOrder : (message table buffer table' buffer' : List ℕ) (answer : ℕ) → Type 0
BestOrder message table buffer table' buffer' answer =
    (read_queue message).verdict ≡ Accepted → entries (problem (read_queue message).queue) ≤ length table → 77 ≤ length buffer
    → Best (problem (read_queue message).queue) table buffer table' buffer' answer
