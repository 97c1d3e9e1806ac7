-- `KindsUpTo` is kept, with the values that the states have.
use Rattle.std.proofs.Common.{◌≤◌}
use Rattle.problem.specs.OfQueue.{problem}
use Rattle.filling.specs.Filling.{entry_from, in_place}
use Rattle.filling.proofs.States.{KindsUpTo}
use Rattle.filling.proofs.Lent.store_values_by.Given as goal

abbrev pub invariant-loop-kind : goal.invariant-loop-kind
invariant-loop-kind g l =
    let q = l.setup.queue in
    KindsUpTo (problem q) (entry_from q l.fn.self.table.now l.k (in_place l.k.left l.layout.kinds l.places l.here)) l.k.index l.fn.self.table.now l.table l.feasible l.kind
    × (l.feasible ≤ l.kind)
