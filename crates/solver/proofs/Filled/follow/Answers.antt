-- A turn takes one job, and looks up the kind after it.
use Rattle.std.proofs.Common.{rules, ℕ, ◌<◌, length, drop, replicate, arith, sym, ◌∙◌}
use Rattle.std.proofs.lemmas.List.{length-take-le, set-append_left}
use Rattle.sequencing.specs.Lists.{sum}
use Rattle.sequencing.specs.Entries.{k_at}
use Rattle.problem.specs.OfQueue.{problem}
use Rattle.next_states.proofs.Numbers.{running}
use Rattle.solver.proofs.Looking.{may_look, looked}
use Rattle.solver.proofs.Following.{share_small, share_light, places_few, slots_are, follow_first, follow_done, takes_now, one_up, job_left, left_within, job_there, stride_within, weight_within, left_after, some_found, none_found, follow_more}
use Rattle.solver.proofs.Filled.follow.Goals as goal
use Rattle.solver.proofs.Filled.follow.Goals.{In-loop-slot, in-Some, in_default}

-- a place is still to be filled
still : (c : In-loop-slot) → c.loop-slot.slot-index < sum (k_at (problem c.args.self.now.setup.now.queue) c.args.from.now.index)
still c = let n = c.new-k.ensures in omega (arith, slots_are c.args.self.now.setup.now c.requires c.kinds.ensures n.left_value n.index_value n.summed, c.loop-slot-test.true)

pub slice_bounds-order-end : goal.slice_bounds-order-end
slice_bounds-order-end c =
    let n = c.new-k.ensures in
    places_few c.args.self.now.setup.now c.requires c.kinds.ensures n.left_value n.index_value n.summed

pub slice_bounds-slot-items-end : goal.slice_bounds-slot-items-end
slice_bounds-slot-items-end c =
    let n = c.new-k.ensures in
    sym (length-take-le c.new-k.result.jobs _ (places_few c.args.self.now.setup.now c.requires c.kinds.ensures n.left_value n.index_value n.summed))

pub new-k-requires-clause-left_small : goal.new-k-requires-clause-left_small
new-k-requires-clause-left_small c = share_small c.args.self.now.setup.now c.kinds.ensures c.requires.left_at

pub new-k-requires-clause-weights_small : goal.new-k-requires-clause-weights_small
new-k-requires-clause-weights_small c = share_light c.args.self.now.setup.now c.kinds.ensures

pub loop-slot-init : goal.loop-slot-init
loop-slot-init c = follow_first c.args.self.now.setup.now c.requires c.kinds.ensures c.new-k.ensures.left_value c.new-k.ensures.index_value c.new-k.ensures.summed

pub bounds-layout-x : goal.bounds-layout-x
bounds-layout-x c =
    let s = c.args.self.now.setup.now in
    let more = still (goal.at.bounds-layout-x c).In-loop-slot in
    omega (arith, (takes_now s c.requires c.loop-slot.invariant more).high, s.valid.kinds)

pub offset_bounds-layout-x : goal.offset_bounds-layout-x
offset_bounds-layout-x c =
    let s = c.args.self.now.setup.now in
    let more = still (goal.at.offset_bounds-layout-x c).In-loop-slot in
    omega (arith, (takes_now s c.requires c.loop-slot.invariant more).high, s.valid.kinds)

pub overflow_sub-x : goal.overflow_sub-x
overflow_sub-x c =
    let s = c.args.self.now.setup.now in
    let more = still (goal.at.overflow_sub-x c).In-loop-slot in
    (takes_now s c.requires c.loop-slot.invariant more).low

pub next_job-requires : goal.next_job-requires
next_job-requires c =
    let s = c.args.self.now.setup.now in
    let f = c.loop-slot.invariant in
    let more = still (goal.at.next_job-requires c).In-loop-slot in
    let t = takes_now s c.requires f more in
    (omega (arith, t.low, t.high, s.valid.kinds), (left_within s c.requires f more, rw (one_up s c.requires f more) (job_there s c.requires f more)))

pub complete-requires : goal.complete-requires
complete-requires c =
    let s = c.args.self.now.setup.now in
    let f = c.loop-slot.invariant in
    let more = still (goal.at.complete-requires c).In-loop-slot in
    let t = takes_now s c.requires f more in
    (omega (arith, t.low, t.high, s.valid.kinds), (job_left s c.requires f more, (omega arith, (stride_within s c.requires f more, weight_within s c.requires f more))))

pub best_next-requires : goal.best_next-requires
best_next-requires c =
    let s = c.args.self.now.setup.now in
    let f = c.loop-slot.invariant in
    let more = still (goal.at.best_next-requires c).In-loop-slot in
    let left = left_after s c.requires f more c.complete.ensures in (
      _,
      (
        running s left.left_at,
        (c.args.self.now.room, rw s.prepared.gaps_are (may_look c.args.self.now left c.step_weight-weight.ensures c.loop-slot.kind (takes_now s c.requires f more).high)),
      ),
    )

pub loop-slot-preserved : goal.loop-slot-preserved
loop-slot-preserved c =
    let s = c.args.self.now.setup.now in
    let f = c.loop-slot.invariant in
    let more = still (goal.at.loop-slot-preserved c).In-loop-slot in
    let then = c.complete.ensures in
    let left = left_after s c.requires f more then in
    let found = rw s.prepared.gaps_are at (c.best_next.ensures _ (running s left.left_at)) ∙ looked c.args.self.now left c.step_weight-weight.ensures c.loop-slot.kind in
    let room : c.loop-slot.slot-index < length c.loop-slot.slot-items = search rules in
    rw (set-append_left c.loop-slot.slot-items (drop c.new-k.result.jobs (replicate {A = ℕ} 60 0)) c.loop-slot.slot-index c.next_job.result room) at
    (follow_more s c.requires f more then (rw (one_up s c.requires f more) at c.next_job.ensures)
    (λ h. elim c.match-best_next.branch [
      | in-Some w ↦ w.kind-is ∙ some_found s c.requires f more then found w.in-Some.is h
      | in_default w ↦ none_found s c.requires f more then found w.in_default.is h
    ]))

pub returns : goal.returns
returns c =
    let n = c.new-k.ensures in
    let slots = slots_are c.args.self.now.setup.now c.requires c.kinds.ensures n.left_value n.index_value n.summed in
    follow_done c.loop-slot.invariant (omega (arith, slots, c.loop-slot-test.false))
