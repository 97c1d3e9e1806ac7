-- The best of the splits passed is held.
use Rattle.std.proofs.Common.{◌≡◌}
use Rattle.filling.proofs.Counting.{Counting}
use Rattle.split_search.proofs.Searching.{Holds}
use Rattle.split_search.proofs.Bench.best_split.Given as goal

abbrev pub invariant-loop : goal.invariant-loop
invariant-loop l = record {
  index_is : l.k.index ≡ l.counter;
  counting : Counting l.self.filled.setup.now.queue l.k;
  holds : Holds l.self.filled.setup.now.queue l.self.second l.k.index l.best;
}
