-- A queue's table has less than 2^42 entries.
use Rattle.std.proofs.Common.{arith}
use Rattle.layout.proofs.Prepared.{size_fits}
use Rattle.layout.proofs.Setup.needed_entries.Goals as goal

pub needed_entries-requires : goal.needed_entries-requires
needed_entries-requires c = let s = c.args.self.now in omega (arith, size_fits s.prepared s.valid)
