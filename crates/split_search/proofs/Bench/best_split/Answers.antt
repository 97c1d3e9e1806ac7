-- The search holds the best of the splits passed: each turn passes a split over, or takes the better of two.
use Rattle.std.proofs.Common.{◌≡◌, refl, suc, arith, sym, ◌∙◌, add-one}
use Rattle.sequencing.specs.Entries.{block}
use Rattle.problem.specs.OfQueue.{problem}
use Rattle.jobs_left.proofs.Stepping.{Stepped}
use Rattle.layout.proofs.Prepared.{kinds_room}
use Rattle.filling.proofs.Counting.{counting_none, step_small, counting_more, left_here}
use Rattle.split_search.proofs.Searching.{Holds, in_unit_held, held_done, may_compare, turn_over, turn_better, turn_worse}
use Rattle.split_search.proofs.Bench.best_split.Goals as goal
use Rattle.split_search.proofs.Bench.best_split.Goals.{in-Some+then-is_better, in-Some+else-is_better, in_default}

pub loop-init : goal.loop-init
loop-init c = rw c.none-k.ensures record {
  index_is = refl;
  counting = counting_none c.args.self.now.filled.setup.now.valid;
  holds = λ j h. absurd (omega arith);
}

pub split_cost-requires-clause-left_of : goal.split_cost-requires-clause-left_of
split_cost-requires-clause-left_of c =
    let setup = c.args.self.now.filled.setup.now in left_here setup.valid setup.prepared c.loop.invariant.counting (omega arith)

pub split_cost-requires-clause-in_unit : goal.split_cost-requires-clause-in_unit
split_cost-requires-clause-in_unit c = in_unit_held _ _ _ c.loop.best c.loop.invariant.holds

pub is_better-requires : goal.is_better-requires
is_better-requires c =
    let setup = c.args.self.now.filled.setup.now in
    let here = left_here setup.valid setup.prepared c.loop.invariant.counting (omega arith) in
    may_compare c.args.self.now here c.loop.best c.loop.invariant.holds c.in-Some.ensures

pub step-requires-clause-few : goal.step-requires-clause-few
step-requires-clause-few c = let setup = c.args.self.now.filled.setup.now in rw c.kinds.ensures (kinds_room setup.queue setup.valid)

pub step-requires-clause-small : goal.step-requires-clause-small
step-requires-clause-small c =
    let setup = c.args.self.now.filled.setup.now in step_small setup.valid setup.prepared c.loop.invariant.counting (omega arith)

pub loop-preserved : goal.loop-preserved
loop-preserved c =
    let b = c.args.self.now in
    let setup = b.filled.setup.now in
    let w = c.loop.invariant in
    let here = left_here setup.valid setup.prepared w.counting (omega arith) in
    let step = c.step.ensures in
    let stepped : Stepped c.kinds.result.now c.loop.k.left c.step.new.self.left = record { left_after = step.left_after; left_unchanged = step.left_unchanged } in
    let more : c.step.new.self.index ≡ suc c.loop.k.index = step.index_value ∙ add-one c.loop.k.index in
    let turned : Holds setup.queue b.second (suc c.loop.k.index) c.match-split_cost.best = elim c.match-split_cost.branch [
      | in-Some+then-is_better t ↦ rw t.best-is (turn_better b here c.loop.best w.holds t.in-Some.ensures (sym t.is_better.ensures ∙ t.if-is_better.true))
      | in-Some+else-is_better t ↦ rw t.best-is (turn_worse b here c.loop.best w.holds t.in-Some.ensures (sym t.is_better.ensures ∙ t.if-is_better.false))
      | in_default t ↦ rw t.best-is (turn_over b here c.loop.best w.holds (sym t.in_default.is ∙ c.split_cost.ensures))
    ] in
    record {
      index_is = omega arith;
      counting = counting_more setup.valid setup.prepared w.counting (omega arith) c.kinds.ensures c.step.new.self stepped step.summed_after more;
      holds = rw more turned;
    }

pub returns : goal.returns
returns c =
    let b = c.args.self.now in
    let setup = b.filled.setup.now in
    let e : c.loop.k.index ≡ block (problem setup.queue) = omega (arith, c.loop.invariant.index_is, c.loop.auto.counter-end, c.loop-test.false, setup.prepared.block_is) in
    held_done b c.loop.best (rw e at c.loop.invariant.holds)
