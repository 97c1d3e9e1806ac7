-- Each job, from the last on, sets its slot, and behind them stands the slot of none cut.
use Rattle.std.proofs.lemmas.Iterator.Adapters.{YieldsList-from_rev_slice}
use Rattle.std.proofs.lemmas.Iterator.Consumers.{YieldsList-from_enumerate, YieldsList-turn, YieldsList-end}
use Rattle.std.proofs.lemmas.List.{length_push}
use Rattle.fields.specs.Lists.{tabulate}
use Rattle.layout.proofs.Places.{placed_more, placed_last}
use Rattle.layout.proofs.set_kind_places.Goals as goal

pub loop-n-init : goal.loop-n-init
unfolding tabulate
loop-n-init c = search

pub loop-n-preserved : goal.loop-n-preserved
loop-n-preserved c =
    let turn = YieldsList-turn (YieldsList-from_enumerate (YieldsList-from_rev_slice c.args.jobs.now cc) (cc))
    c.loop-n.yielded _ c.loop-n.yielded_by _ _ (c.in-Some.n, c.in-Some.job) c.in-Some.is c.next.ensures.steps in
    rw (c.loop-n.invariant, length_push c.loop-n.yielded (c.in-Some.n, c.in-Some.job)) (placed_more _ _ _ _ _ turn _ c.permitted_places.ensures)

pub returns : goal.returns
returns c =
    let end = YieldsList-end (YieldsList-from_enumerate (YieldsList-from_rev_slice c.args.jobs.now cc) (cc))
    c.loop-n.yielded _ c.loop-n.yielded_by _ _ c.in-None.is c.next.ensures.steps in
    rw c.loop-n.invariant (placed_last _ _ _ _ _ end.1)
