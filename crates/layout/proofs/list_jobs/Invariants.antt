-- `Counting` is what the loop keeps.
use Rattle.layout.proofs.ByKind.{Counting}
use Rattle.layout.proofs.list_jobs.Given as goal

abbrev pub invariant-loop-j : goal.invariant-loop-j
invariant-loop-j l = Counting l.queue l.initial.kind-items l.kind-items l.fn.jobs l.jobs l.begin l.stride l.j
