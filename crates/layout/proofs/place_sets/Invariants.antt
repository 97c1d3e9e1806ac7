-- The slots passed hold their ranges, all others what they held.
use Rattle.std.proofs.Common.{◌≡◌, ℕ, get_or}
use Rattle.layout.specs.PlaceSets.{set_at}
use Rattle.layout.proofs.place_sets.Given as goal

abbrev pub invariant-loop-i : goal.invariant-loop-i
invariant-loop-i l = (k : ℕ) → get_or l.sets k 0 ≡ set_at l.places l.i l.fn.sets k
