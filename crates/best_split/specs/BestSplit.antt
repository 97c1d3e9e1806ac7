-- The best split: what splitting promises of every accepted message without 19 and 20, with a table of at least N × P entries and a buffer of at least
-- 77 bytes, whatever they hold.
use Rattle.refusal.specs.Answers.{Accepted}
use Rattle.std.specs.Prelude.{ℕ, ◌*◌, ◌≤◌, List, ◌↔◌, ◌≢◌, ◌≡◌, T as Is, length, take, drop, Ok}
use Rattle.queue.specs.declared.Queue.{Queue}
use Rattle.queue.specs.Reading.{read_queue}
use Rattle.split_plan.specs.declared.SplitPlan.{SplitPlan}
use Rattle.split_plan.specs.Record.{job_list, Bounded}
use Rattle.split_plan.specs.Writing.{message}
use Rattle.sequencing.specs.Problem.{Problem}
use Rattle.sequencing.specs.Entries.{entries}
use Rattle.problem.specs.OfQueue.{problem}
use Rattle.splitting.specs.Splits.{IsSplit, SplitPermitted, split_cost}
use Rattle.splitting.specs.Shares.{share_order, first_share, second_share}
use Rattle.splitting.specs.Taken.{Taken}
use Rattle.splitting.specs.Covers.{covers}
use Rattle.best_order.specs.Endings.{table_of, LeavesTable}
use Rattle.best_order.specs.Planning.{ending_on}

-- what a split plan holds, for a queue with problem P and a second cutter whose start kind is s
pub record BestSplitPlan (P : Problem) (s : ℕ) (plan : SplitPlan) : Type 0 where
  -- it is within the bounds of a split plan, and of the queue's goal
  pub bounded : Bounded plan
  pub goal : plan.goal ≡ P.goal
  -- n_1 .. n_N jobs of the kinds on the first cutter are the split taken: no counts cost less, and among equal costs n_1 is the smallest, then n_2, and on
  pub counts : List ℕ
  pub taken : Taken P s counts plan.cost
  -- of each kind the first cutter has the earliest handed in and the second the others, and each follows the one-cutter order of its share
  pub first : job_list plan.first ≡ share_order P P.start (first_share P counts)
  pub second : job_list plan.second ≡ share_order P s (second_share P counts)
  -- each job goes to one cutter
  pub split : IsSplit P (job_list plan.first) (job_list plan.second)
  -- on neither cutter is a succession forbidden
  pub permitted : SplitPermitted P s (job_list plan.first) (job_list plan.second)
  -- every split so permitted, in any order on either cutter, costs at least as much
  pub best : (o₁ o₂ : List ℕ) → IsSplit P o₁ o₂ → SplitPermitted P s o₁ o₂
      → split_cost P s (job_list plan.first) (job_list plan.second) ≤ split_cost P s o₁ o₂
  -- the stated cost is that split's own
  pub own_cost : plan.cost ≡ split_cost P s (job_list plan.first) (job_list plan.second)

-- a message and the second start, the table and the buffer before and after, and the answer R + 256 × V
pub record Best (bytes : List ℕ) (s : ℕ) (table buffer table' buffer' : List ℕ) (answer : ℕ) : Type 0 where
  -- 17 exactly when no split is permitted
  pub none_left : (answer ≡ 17)
      ↔ ((o₁ o₂ : List ℕ) → IsSplit (problem (read_queue bytes).queue) o₁ o₂ → SplitPermitted (problem (read_queue bytes).queue) s o₁ o₂ → ⊥)
  -- otherwise n bytes are written, and they are the message of the best split's plan
  pub otherwise : answer ≢ 17 → (n : ℕ) × (plan : SplitPlan) × (answer ≡ 256 * n) × (n ≤ length buffer') × (take n buffer' ≡ message plan)
      × BestSplitPlan (problem (read_queue bytes).queue) s plan
  -- bytes behind the plan, and on 17 all bytes, are as before
  pub behind : (n : ℕ) → answer ≡ 256 * n → drop n buffer' ≡ drop n buffer
  pub unwritten : answer ≡ 17 → buffer' ≡ buffer
  -- either way the table is the one that planning the message for one cutter leaves, with a plan or with 17
  pub as_planned : LeavesTable (table_of (ending_on bytes table buffer)) table table'

-- S-1's promise, of a message and the second start, what is lent before and after, and the answer
abbrev pub BestSplit : (bytes : List ℕ) (second : ℕ) (table buffer table' buffer' : List ℕ) (answer : ℕ) → Type 0
BestSplit bytes s table buffer table' buffer' answer =
    let q : Queue = (read_queue bytes).queue in
    (read_queue bytes).verdict ≡ Accepted → Is (covers q) → s ≤ q.kinds → entries (problem q) ≤ length table → 77 ≤ length buffer
    → Best bytes s table buffer table' buffer' answer
