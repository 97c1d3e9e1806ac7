-- A queue whose gap rows have no 65536 is one of 01, with the record's own numbers for gaps; and where some are forbidden, no permitted order's cost
-- depends on what never would add.
-- Assumes nothing.
use mathlib.Core.List.{List}
use mathlib.Core.Path.{◌≡◌, ap}
use Prim.Native.Nat.{ℕ, ◌≤◌}
use Rattle.gaps.specs.Gaps.{seconds_of}
use Rattle.gaps.proofs.Gaps.{gap_seconds, gap_is, never_is}
use Rattle.sequencing.specs.Problem.{NoneForbidden}
use Rattle.sequencing.specs.Orders.{Permitted, cost}
use Rattle.sequencing.specs.Unforbidden.{gap₁, OfScope}
use Rattle.sequencing.proofs.PermittedCosts.{numbered, cost_permitted}
use Rattle.sequencing.proofs.Unforbidden.{of_scope}
use Rattle.queue.specs.declared.Queue.{Queue}
use Rattle.queue.specs.Record.{gap, Valid}
use Rattle.problem.specs.OfQueue.{problem}
use Rattle.problem.specs.Unforbidden.{NoNever}
use Rattle.problem.proofs.Rule.{proper}

module _ (q : Queue) where
  -- nothing is forbidden
  pub none_forbidden : NoNever q → NoneForbidden (problem q)
  none_forbidden h i j l m u e = h i j l m u ((never_is (gap q i j)).0 e)

  -- and 01's gap is the record's number
  pub gaps_are : NoNever q → (i j : ℕ) → i ≤ q.kinds → 1 ≤ j → j ≤ q.kinds → gap₁ (problem q) i j ≡ gap q i j
  gaps_are h i j l m u = ap seconds_of (gap_seconds (gap q i j) (h i j l m u))

  -- the base is the special case: such a queue is one of 01
  pub queue_of_scope : Valid q → NoNever q → OfScope (problem q)
  queue_of_scope v h = of_scope (problem q) (none_forbidden h) v.start (proper q v)

  -- a permitted order's cost is that by the record's numbers, whatever stands for never
  pub cost_by_numbers : (o : List ℕ) → Permitted (problem q) o → cost (numbered (problem q) (gap q) (λ i j s e. gap_is (gap q i j) s e)) o ≡ cost (problem q) o
  cost_by_numbers = cost_permitted (problem q) (gap q) (λ i j s e. gap_is (gap q i j) s e)
