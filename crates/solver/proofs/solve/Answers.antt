-- The table filled, then looked at from the start.
use Rattle.std.proofs.Common.{◌≡◌, ◌∙◌}
use Rattle.sequencing.specs.Entries.{k_at}
use Rattle.problem.specs.OfQueue.{problem}
use Rattle.filling.proofs.Tables.{all_filled}
use Rattle.solver.specs.Looking.{look}
use Rattle.solver.proofs.Start.{first_found}
use Rattle.solver.proofs.solve.Goals as goal

pub new-requires : goal.new-requires
new-requires c = let same = c.fill-feasible_states.ensures.loan in rw same.0 (all_filled c.fill-feasible_states.ensures.filled_table)

pub returns-clause-first_choice_value : goal.returns-clause-first_choice_value
returns-clause-first_choice_value c =
    let same = c.fill-feasible_states.ensures.loan in
    let q = c.args.lent.now.setup.now.queue in
    let e = rw same.0 at c.all_left.ensures.index_value in
    let at : c.look-first.result ≡ look q q.start (k_at (problem q) c.all_left.result.index) = rw (c.new.ensures.setup_value, same.0) at c.look-first.ensures in
    rw e at at ∙ first_found q

pub returns-clause-filled_table : goal.returns-clause-filled_table
returns-clause-filled_table c = c.fill-feasible_states.ensures.filled_table
