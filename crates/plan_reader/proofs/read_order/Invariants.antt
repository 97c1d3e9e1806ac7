-- The bytes stay, and `Ordering` says what was read and stored.
use Rattle.std.proofs.Common.{◌≡◌}
use Rattle.plan_reader.proofs.Orders.{Ordering}
use Rattle.plan_reader.proofs.read_order.Given as goal

abbrev pub invariant-loop-place : goal.invariant-loop-place
invariant-loop-place l =
    (l.input.bytes ≡ l.initial.input.bytes)
    × Ordering l.initial.input.bytes.now l.initial.input.at l.initial.out l.out l.input.at l.place
