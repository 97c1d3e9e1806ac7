-- `KindsUpTo` is kept, whatever the function of the kind answers.
use Rattle.std.proofs.Common.{ℕ, ◌≤◌}
use Rattle.std.proofs.Math.Option.{Option as OrNone}
use Rattle.problem.specs.OfQueue.{problem}
use Rattle.filling.specs.Filling.{Answers}
use Rattle.filling.proofs.States.{KindsUpTo}
use Rattle.filling.proofs.Lent.store_states.Given as goal

abbrev pub invariant-loop-kind : goal.invariant-loop-kind
invariant-loop-kind g l =
    let q = l.setup.queue in
    ((f : ℕ → OrNone ℕ) → Answers q.kinds (goal.F-post g l.value) f → KindsUpTo (problem q) f l.index l.fn.self.table.now l.table l.feasible l.kind)
    × (l.feasible ≤ l.kind)
