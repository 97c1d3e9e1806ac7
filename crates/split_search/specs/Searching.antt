-- The search of the best split over a filled table.
use Rattle.std.specs.Prelude.{Bool, true, false, not, ◌&&◌, ◌||◌, List, ◌≡◌, ℕ, ltb, Some, None, Option as Answer}
use Rattle.std.proofs.Math.Option.{Option, none, some}
use Rattle.units.specs.declared.Cost.{Cost}
use Rattle.units.specs.Costs.{cost_in, number_of}
use Rattle.queue.specs.declared.Queue.{Queue}
use Rattle.sequencing.specs.Lists.{sum}
use Rattle.sequencing.specs.Problem.{Problem}
use Rattle.sequencing.specs.Least.{only}
use Rattle.sequencing.specs.Recursion.{cost_to_go}
use Rattle.sequencing.specs.Entries.{k_at}
use Rattle.problem.specs.OfQueue.{problem}
use Rattle.splitting.specs.Taken.{counts_cost, taken_cost, taken_counts}
use Rattle.splitting.specs.Scan.{is_before}
use Rattle.jobs_left.specs.Steps.{LeftAt}
use Rattle.split_search.specs.declared.Split.{Split}

-- a cost as it is answered, in the goal's unit
abbrev pub cost_answer : (goal : ℕ) → Option ℕ → Answer Cost
cost_answer goal none = None
cost_answer goal (some c) = Some (cost_in goal c)

-- a cost above that of the split held, if one is
abbrev pub exceeds : Option ℕ → (held : Answer Split) → Bool
exceeds none held = false
exceeds (some c) None = false
exceeds (some c) (Some r) = ltb (number_of r.cost) c

-- the cost of the split whose counts have index i; none where the first cutter alone costs more than the split held
abbrev pub cost_upto : Problem → (s : ℕ) → (held : Answer Split) → (i : ℕ) → Option ℕ
cost_upto P s held i = only (not (exceeds (cost_to_go P P.start (k_at P i)) held)) (counts_cost P s (k_at P i))

-- whether a split is better than the one held, if one is: it costs less, or as much and its counts come before
abbrev pub is_better : (held : Answer Split) → Cost → (counts : List ℕ) → Bool
is_better None cost counts = true
is_better (Some r) cost counts = ltb (number_of cost) (number_of r.cost) || (not (ltb (number_of r.cost) (number_of cost)) && is_before counts r.first.left)

-- the split taken: its cost in the goal's unit, and the first cutter's counts with their index, and how many jobs these are
pub record Best (q : Queue) (second : ℕ) (r : Split) : Type 0 where
  pub cost_is : taken_cost (problem q) second ≡ some (number_of r.cost)
  pub in_unit : r.cost ≡ cost_in q.goal (number_of r.cost)
  pub counts_are : k_at (problem q) r.first.index ≡ taken_counts (problem q) second
  pub left_at : LeftAt (problem q) r.first.left r.first.index
  pub jobs_are : r.first.jobs ≡ sum (taken_counts (problem q) second)

-- the answer: that split, or none where no split is permitted
abbrev pub IsBest : (q : Queue) (second : ℕ) → Answer Split → Type 0
IsBest q second None = taken_cost (problem q) second ≡ none
IsBest q second (Some r) = Best q second r
