-- The slots of the jobs passed are set.
use Rattle.std.proofs.Common.{◌≡◌, length}
use Rattle.layout.proofs.Places.{placed}
use Rattle.layout.proofs.set_kind_places.Given as goal

abbrev pub invariant-loop-n : goal.invariant-loop-n
invariant-loop-n l = l.places ≡ placed l.jobs l.window l.max_shift l.fn.places (length l.yielded)
