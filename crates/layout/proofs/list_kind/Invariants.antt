-- `Listing` is what the loop keeps.
use Rattle.layout.proofs.Listing.{Listing}
use Rattle.layout.proofs.list_kind.Given as goal

abbrev pub invariant-loop-i : goal.invariant-loop-i
invariant-loop-i l = Listing l.job_kinds l.kind l.fn.jobs l.jobs l.listed l.i
