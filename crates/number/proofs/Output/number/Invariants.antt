-- The buffer stays the one that was lent, and `Writing` is the invariant; what is left of the value falls.
use Rattle.std.proofs.Common.{◌≡◌}
use Rattle.number.proofs.Writing.{Writing}
use Rattle.number.proofs.Output.number.Given as goal

abbrev pub invariant-loop-rest : goal.invariant-loop-rest
invariant-loop-rest l =
    (l.self.buffer.ghost_name ≡ l.initial.self.buffer.ghost_name)
    × Writing l.initial.self.buffer.now l.initial.self.at l.value l.self.buffer.now l.rest l.self.at

abbrev pub decreases-loop-rest : goal.decreases-loop-rest
decreases-loop-rest l = l.rest
