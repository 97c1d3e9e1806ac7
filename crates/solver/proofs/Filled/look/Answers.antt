-- Where nothing is left a cost of 0, else the recursion's choice.
use Rattle.std.proofs.Common.{◌∙◌, arith, sym}
use Rattle.next_states.proofs.Numbers.{running}
use Rattle.solver.proofs.Looking.{found_nothing, may_look, looked, found_there}
use Rattle.solver.proofs.Filled.look.Goals as goal

pub returns-then-k-eq0 : goal.returns-then-k-eq0
returns-then-k-eq0 c = rw c.cost_in.ensures (found_nothing _ _ _ (sym c.requires.0.jobs_are ∙ c.if-k-eq0.true))

pub best_next-requires : goal.best_next-requires
best_next-requires c =
    let f = c.args.self.now in
    let s = f.setup.now in
    (_, (running s c.requires.0.left_at, (f.room, rw s.prepared.gaps_are (may_look f c.requires.0 c.step_weight.ensures c.args.row c.requires.1))))

pub returns : goal.returns
returns c =
    let s = c.args.self.now.setup.now in
    let found = rw s.prepared.gaps_are at (c.best_next.ensures _ (running s c.requires.0.left_at)) in
    found ∙ looked c.args.self.now c.requires.0 c.step_weight.ensures c.args.row ∙ found_there _ _ _ (omega (arith, c.requires.0.jobs_are))
