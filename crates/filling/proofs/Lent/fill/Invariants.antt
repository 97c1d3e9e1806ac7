-- The loan stands, and `UpTo` is kept: before each turn the indices so far are filled.
use Rattle.std.proofs.Common.{◌≡◌}
use Rattle.filling.specs.Lending.{SameLoan}
use Rattle.filling.proofs.UpTo.{UpTo}
use Rattle.filling.proofs.Lent.fill.Given as goal

abbrev pub invariant-loop : goal.invariant-loop
invariant-loop l = record {
  loan : SameLoan l.fn.self l.self;
  index_is : l.k.index ≡ l.counter;
  upto : UpTo l.fn.self.setup.now.queue l.fn.self.table.now l.self.table.now l.feasible l.k l.here;
}
