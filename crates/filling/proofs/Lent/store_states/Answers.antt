-- A turn stores the value of one kind more, at 01's number of its entry.
use Rattle.std.proofs.Common.{◌<◌, ◌≡◌, length, arith}
use Rattle.next_states.proofs.Numbers.{blocks}
use Rattle.filling.proofs.States.{kind_in, kinds_none, lent_room, block_fits, entry_in, kinds_more, kinds_done}
use Rattle.filling.proofs.Lent.store_states.Goals as goal
use Rattle.filling.proofs.Lent.store_states.Goals.{After-state_entry-entry}

-- its entry lies in the table
inside : (g : _) (c : After-state_entry-entry g) → c.state_entry-entry.result < length c.loop-kind.table
inside g c =
    let s = c.args.setup.now in
    entry_in s c.requires.in_table (omega (arith, lent_room c.args.self.now c.requires.lent, c.loop-kind.auto.table)) c.loop-kind-test.true
    (c.state_entry-entry.ensures _ (blocks s) c.requires.in_table (kind_in s c.loop-kind-test.true))

pub loop-kind-init : goal.loop-kind-init
loop-kind-init g c = (λ f says. kinds_none, omega arith)

pub state_entry-entry-requires : goal.state_entry-entry-requires
state_entry-entry-requires g c = block_fits c.args.setup.now c.requires.in_table c.loop-kind-test.true

pub store_value-feasible-requires : goal.store_value-feasible-requires
store_value-feasible-requires g c = inside g (goal.at.store_value-feasible-requires g c).After-state_entry-entry

pub loop-kind-preserved : goal.loop-kind-preserved
loop-kind-preserved g c =
    let s = c.args.setup.now in
    let within = c.requires.in_table in
    let h = kind_in s c.loop-kind-test.true in
    let is = c.state_entry-entry.ensures _ (blocks s) within h in
    let in-table = inside g (goal.at.loop-kind-preserved g c).After-state_entry-entry in
    let one = c.store_value-feasible.ensures in (
      λ f says. kinds_more within (c.loop-kind.invariant.0 f says) is in-table (one.stored _ (says c.loop-kind.kind c.value.result h c.value.ensures)),
      omega (arith, one.few, c.loop-kind.invariant.1),
    )

pub returns-clause-stored : goal.returns-clause-stored
returns-clause-stored g c f says =
    let s = c.args.setup.now in
    let e : c.loop-kind.kind ≡ s.queue.kinds = omega (arith, c.loop-kind.auto.kind-end, c.loop-kind-test.false, s.prepared.kinds_are) in
    kinds_done c.requires.in_table (rw e at c.loop-kind.invariant.0 f says)
