-- The bytes stay, and `Reading` is the invariant.
use Rattle.std.proofs.Common.{◌≡◌, ◌-◌}
use Rattle.number.proofs.Reading.{Reading}
use Rattle.number.proofs.Input.number.Given as goal

abbrev pub invariant-loop : goal.invariant-loop
invariant-loop l = (l.self.bytes ≡ l.initial.self.bytes) × Reading l.self.bytes.now l.initial.self.at l.groups l.value l.shift l.self.at (l.groups - l.counter)
