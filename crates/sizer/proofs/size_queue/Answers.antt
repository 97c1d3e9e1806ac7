-- Both numbers are those of what is prepared.
use Rattle.std.proofs.Common.{ℕ, suc, ◌≤◌, get_or, arith}
use Rattle.queue.specs.declared.Queue.{Queue}
use Rattle.queue.specs.Record.{Valid}
use Rattle.sequencing.specs.States.{all_left}
use Rattle.sequencing.proofs.Vectors.{at_sum}
use Rattle.problem.specs.OfQueue.{problem}
use Rattle.layout.proofs.Prepared.{counts_known, kinds_long}
use Rattle.layout.proofs.AllLeft.{all_jobs}
use Rattle.table_size.specs.Sizes.{sizes}
use Rattle.sizer.proofs.size_queue.Goals as goal

few : {q : Queue} → Valid q → (j : ℕ) → get_or (all_left (problem q)) j 0 ≤ 60
few {q} v j = omega (arith, at_sum (all_left (problem q)) (suc j), all_jobs v, v.jobs)

pub most_feasible-states-requires-clause-few_kinds : goal.most_feasible-states-requires-clause-few_kinds
most_feasible-states-requires-clause-few_kinds c = let s = c.prepare-setup.result in rw c.kinds.ensures (omega (arith, kinds_long s.queue, s.valid.kinds))

pub most_feasible-states-requires-clause-few_jobs : goal.most_feasible-states-requires-clause-few_jobs
most_feasible-states-requires-clause-few_jobs c = let s = c.prepare-setup.result in rw (c.kinds.ensures, counts_known s.queue) (λ j h. few s.valid j)

pub returns : goal.returns
unfolding sizes
returns c =
    let s = c.prepare-setup.result in
    rw (c.needed_entries-entries.ensures, c.most_feasible-states.ensures, c.kinds.ensures, counts_known s.queue, c.prepare-setup.ensures)
