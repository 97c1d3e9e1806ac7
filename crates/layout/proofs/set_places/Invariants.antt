-- The slots of the kinds passed are set.
use Rattle.std.proofs.Common.{◌≡◌}
use Rattle.layout.proofs.Places.{slots_of}
use Rattle.layout.proofs.set_places.Given as goal

abbrev pub invariant-loop-j : goal.invariant-loop-j
invariant-loop-j l = l.places ≡ slots_of l.queue l.fn.places l.j
