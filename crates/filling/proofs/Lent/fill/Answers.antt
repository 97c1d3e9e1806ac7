-- A turn fills one index more, and counts its feasible states.
use Rattle.std.proofs.Common.{refl, sym, ap, ◌≡◌, ◌-◌, ◌<◌, ◌∙◌, arith}
use Rattle.problem.specs.OfQueue.{problem}
use Rattle.jobs_left.proofs.Stepping.{Stepped}
use Rattle.layout.proofs.Prepared.{kinds_room}
use Rattle.filling.specs.Filling.{StatesStored, entry_from, in_place}
use Rattle.filling.proofs.Counting.{step_small, few_stepped}
use Rattle.filling.proofs.UpTo.{upto_none, fills, here_is, count_fits, upto_more, upto_done}
use Rattle.filling.proofs.Lent.fill.Goals as goal
use Rattle.filling.proofs.Lent.fill.Goals.{In-loop, After-fill_states-feasible, After-step-one_more}

below : (c : In-loop) → c.loop.k.index < c.args.self.now.setup.now.layout.size.block
below c = omega (arith, c.loop.invariant.index_is, c.loop-test.true)

-- what the turn has stored, in the table of the loan
stored : (c : After-fill_states-feasible)
    → StatesStored (problem c.args.self.now.setup.now.queue)
    (entry_from c.args.self.now.setup.now.queue c.loop.self.table.now c.loop.k (in_place c.loop.k.left c.args.self.now.setup.now.layout.kinds c.place_sets.new.sets c.loop.here))
    c.loop.self.table.now c.loop.k.index c.fill_states-feasible.new.self.table.now c.fill_states-feasible.result
stored c = c.fill_states-feasible.ensures.stored

stepped : (c : After-step-one_more) → Stepped c.kinds-kinds.result.now c.loop.k.left c.step-one_more.new.self.left
stepped c = record { left_after = c.step-one_more.ensures.left_after; left_unchanged = c.step-one_more.ensures.left_unchanged }

pub loop-init : goal.loop-init
loop-init c = rw c.none-k.ensures record { loan = (refl, refl); index_is = refl; upto = upto_none c.args.self.now.setup.now c.place_bit-here.ensures }

pub fill_states-feasible-requires : goal.fill_states-feasible-requires
fill_states-feasible-requires c =
    record {
      lent = ap (λ (s : _). s.now) (sym c.loop.invariant.loan.0);
      steps = c.steps-steps.ensures;
      fillable = fills c.args.self.now.setup.now c.loop.invariant.upto (below (goal.at.fill_states-feasible-requires c).In-loop);
    }

pub overflow_add-feasible : goal.overflow_add-feasible
overflow_add-feasible c =
    let place = goal.at.overflow_add-feasible c in
    record { fits = count_fits c.args.self.now.setup.now c.loop.invariant.upto (below place.In-loop) _ c.place_sets.ensures (stored place.After-fill_states-feasible) }

pub step-one_more-requires-clause-few : goal.step-one_more-requires-clause-few
step-one_more-requires-clause-few c = let s = c.args.self.now.setup.now in rw c.kinds-kinds.ensures (kinds_room s.queue s.valid)

pub step-one_more-requires-clause-summed : goal.step-one_more-requires-clause-summed
step-one_more-requires-clause-summed c = rw c.kinds-kinds.ensures c.loop.invariant.upto.counting.summed

pub step-one_more-requires-clause-small : goal.step-one_more-requires-clause-small
step-one_more-requires-clause-small c =
    let s = c.args.self.now.setup.now in
    step_small s.valid s.prepared c.loop.invariant.upto.counting (below (goal.at.step-one_more-requires-clause-small c).In-loop)

pub place_after-here-requires-clause-earlier : goal.place_after-here-requires-clause-earlier
place_after-here-requires-clause-earlier c e =
    let s = c.args.self.now.setup.now in
    let h = below (goal.at.place_after-here-requires-clause-earlier c).In-loop in
    let added = c.step-one_more.ensures.first_added e in
    let before : c.step-one_more.new.self.jobs - 1 ≡ c.loop.k.jobs = omega arith in
    (omega arith, rw before (here_is s c.loop.invariant.upto h))

pub place_after-here-requires-clause-within : goal.place_after-here-requires-clause-within
place_after-here-requires-clause-within c =
    let s = c.args.self.now.setup.now in
    let place = goal.at.place_after-here-requires-clause-within c in
    let few = few_stepped s.valid s.prepared c.loop.invariant.upto.counting (below place.In-loop) c.kinds-kinds.ensures c.step-one_more.new.self (stepped place.After-step-one_more) c.step-one_more.ensures.summed_after in
    (omega (arith, few, s.prepared.jobs_are), omega (arith, s.prepared.jobs_are, s.valid.jobs))

pub loop-preserved : goal.loop-preserved
loop-preserved c =
    let place = goal.at.loop-preserved c in
    let step = c.step-one_more.ensures in
    let loan = c.loop.invariant.loan in
    let filled = c.fill_states-feasible.ensures.loan in
    record {
      loan = (filled.0 ∙ loan.0, filled.1 ∙ loan.1);
      index_is = omega (arith, step.index_value, c.loop.invariant.index_is);
      upto = upto_more c.args.self.now.setup.now c.loop.invariant.upto (below place.In-loop) _ c.place_sets.ensures (stored place.After-fill_states-feasible)
          c.kinds-kinds.ensures c.step-one_more.new.self (stepped place.After-step-one_more) step.summed_after step.index_value c.place_after-here.ensures;
    }

pub returns-clause-filled_table : goal.returns-clause-filled_table
returns-clause-filled_table c =
    (upto_done c.args.self.now.setup.now c.loop.invariant.upto (omega (arith, c.loop.invariant.index_is, c.loop.auto.counter-end, c.loop-test.false))).0

pub returns-clause-value : goal.returns-clause-value
returns-clause-value c =
    (upto_done c.args.self.now.setup.now c.loop.invariant.upto (omega (arith, c.loop.invariant.index_is, c.loop.auto.counter-end, c.loop-test.false))).1
