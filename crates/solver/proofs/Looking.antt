-- A filled table, looked at from any k: what the callees may rely on, and that the least by the table is the recursion's.
-- Assumes nothing.
use Prim.Native.Nat.{ℕ, ◌≤◌, ◌<◌}
use mathlib.Core.List.{List}
use mathlib.Core.Option.{Option, none, some}
use mathlib.Core.Path.{◌≡◌, refl, ◌∙◌}
use native.Mathlib.Omega.{arith}
use borrow.Author.Tests.{ne_eqb}
use Rattle.std.specs.Prelude.{Some}
use Rattle.units.specs.declared.Cost.{Cost}
use Rattle.units.specs.Costs.{cost_in}
use Rattle.queue.specs.declared.Queue.{Queue}
use Rattle.sequencing.specs.Lists.{sum}
use Rattle.sequencing.specs.Least.{least, arg_least}
use Rattle.sequencing.specs.Recursion.{W, to_go, choice}
use Rattle.sequencing.specs.Entries.{k_at}
use Rattle.sequencing.proofs.Equations.{cost_some_left}
use Rattle.problem.specs.OfQueue.{problem}
use Rattle.jobs_left.specs.declared.JobsLeft.{JobsLeft}
use Rattle.jobs_left.specs.declared.StepWeight.{StepWeight}
use Rattle.jobs_left.specs.Kinds.{step_of, factor}
use Rattle.jobs_left.specs.Steps.{LeftOf}
use Rattle.jobs_left.proofs.Weights.{factor_is}
use Rattle.next_states.specs.NextStates.{next_values, Ready, cost_by, least_answer, least_next}
use Rattle.next_states.proofs.Units.{unit_is, least_unit}
use Rattle.filling.proofs.Values.{TableAt, ready, least_is, taken_is}
use Rattle.solver.specs.declared.Filled.{Filled}
use Rattle.solver.specs.Looking.{look}

-- two kinds that agree wherever there is a cost answer the same
same_answer : (unit : ℕ → Cost) (x y : ℕ) (v : Option ℕ) → ((c : ℕ) → v ≡ some c → x ≡ y) → least_answer unit x v ≡ least_answer unit y v
same_answer unit x y none h = refl
same_answer unit x y (some c) h = rw (h c refl)

-- nothing is left: a cost of 0, and no kind
pub found_nothing : (q : Queue) (row : ℕ) (k : List ℕ) → sum k ≡ 0 → Some (record { cost = cost_in q.goal 0; kind = 0 }) ≡ look q row k
unfolding to_go
found_nothing q row k e = rw e

-- something is left: the recursion's choice
pub found_there : (q : Queue) (row : ℕ) (k : List ℕ) → 0 < sum k
    → least_answer (cost_in q.goal) (arg_least (choice (problem q) row k) q.kinds) (least (choice (problem q) row k) q.kinds) ≡ look q row k
found_there q row k h = rw (cost_some_left (problem q) row k h, ne_eqb (sum k) 0 (λ e. omega arith))

module _ (f : Filled) {k : JobsLeft} (of : LeftOf (problem f.setup.now.queue) k) where
  abbrev q : Queue
  q = f.setup.now.queue

  abbrev left : List ℕ
  left = k_at (problem q) k.index

  -- with every entry filled
  pub whole : TableAt q f.table.now k.left k.index
  whole = record { valid = f.setup.now.valid; earlier = λ L j a u h. f.filled L j a u (omega (arith, of.left_at.within)); left_at = of.left_at }

  factor_left : factor (step_of q.goal k.weight) ≡ W (problem q) left
  unfolding W
  factor_left = rw (factor_is q.goal k.weight, of.weight_is)

  -- what looking for the next kind may rely on
  pub may_look : {w : StepWeight} → w ≡ step_of q.goal k.weight → (row : ℕ) → row ≤ q.kinds → Ready (next_values (problem q) f.table.now left) q.gaps row (factor w)
  may_look is row u = rw (is, factor_left) (ready whole row u)

  -- what is found is the recursion's choice
  pub looked : {w : StepWeight} → w ≡ step_of q.goal k.weight → (row : ℕ) → least_next (next_values (problem q) f.table.now left) q.gaps row w
      ≡ least_answer (cost_in q.goal) (arg_least (choice (problem q) row left) q.kinds) (least (choice (problem q) row left) q.kinds)
  looked is row =
      rw (is, factor_left, least_is whole row)
      (least_unit (cost_by (step_of q.goal k.weight)) (cost_in q.goal) (unit_is q.goal k.weight) _ _
      ∙ same_answer (cost_in q.goal) _ _ (least (choice (problem q) row left) q.kinds) (taken_is whole row))
