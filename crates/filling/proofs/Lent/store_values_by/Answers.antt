-- A turn stores the value of one kind more, at 01's number of its entry.
use Rattle.std.proofs.Common.{ℕ, suc, Bool, add-one, ◌<◌, ◌≡◌, length, ap, ◌∙◌, arith}
use Rattle.next_states.specs.NextStates.{answer}
use Rattle.next_states.proofs.Numbers.{blocks}
use Rattle.filling.specs.Filling.{entry_from, in_place}
use Rattle.filling.proofs.States.{kind_in, kinds_none, lent_room, block_fits, entry_in, kinds_more, kinds_done, slot_in_places, ready_here, entry_value}
use Rattle.filling.proofs.Lent.store_values_by.Goals as goal
use Rattle.filling.proofs.Lent.store_values_by.Goals.{After-state_entry-entry}

-- its entry lies in the table
inside : (g : _) (c : After-state_entry-entry g) → c.state_entry-entry.result < length c.loop-kind.table
inside g c =
    let s = c.args.setup.now in
    let within = c.requires.fillable.left_of.left_at.within in
    entry_in s within (omega (arith, lent_room c.args.self.now c.requires.lent, c.loop-kind.auto.table)) c.loop-kind-test.true
    (c.state_entry-entry.ensures _ (blocks s) within (kind_in s c.loop-kind-test.true))

pub loop-kind-init : goal.loop-kind-init
loop-kind-init g c = (kinds_none, omega arith)

pub state_entry-entry-requires : goal.state_entry-entry-requires
state_entry-entry-requires g c = block_fits c.args.setup.now c.requires.fillable.left_of.left_at.within c.loop-kind-test.true

pub is_permitted-permitted-requires : goal.is_permitted-permitted-requires
is_permitted-permitted-requires g c =
    let s = c.args.setup.now in
    slot_in_places s c.requires.fillable.left_of c.loop-kind.kind (kind_in s c.loop-kind-test.true)

pub invariant_of-look : goal.invariant_of-look
invariant_of-look g c =
    let s = c.args.setup.now in
    let looks = c.requires.looks in
    let ready = c.requires.fillable.ready (suc c.loop-kind.kind) (omega arith) (omega (arith, kind_in s c.loop-kind-test.true)) in
    record { ready = rw add-one (ready_here s.queue c.args.self.now.table.now c.args.k.now looks.0 s.prepared.gaps_are looks.1 ready) }

pub store_value-feasible-requires : goal.store_value-feasible-requires
store_value-feasible-requires g c = inside g (goal.at.store_value-feasible-requires g c).After-state_entry-entry

pub loop-kind-preserved : goal.loop-kind-preserved
loop-kind-preserved g c =
    let a = c.args in
    let s = a.setup.now in
    let of = c.requires.fillable.left_of in
    let looks = c.requires.looks in
    let permitted : ℕ → Bool = in_place a.k.now.left s.layout.kinds a.places.now a.here in
    let is = c.state_entry-entry.ensures _ (blocks s) of.left_at.within (kind_in s c.loop-kind-test.true) in
    let in-table = inside g (goal.at.loop-kind-preserved g c).After-state_entry-entry in
    let value = entry_value s.queue a.self.now.table.now a.k.now looks.0 s.prepared.gaps_are looks.1 of c.requires.found permitted (suc c.loop-kind.kind) in
    let found : c.state_value.result ≡ answer (entry_from s.queue a.self.now.table.now a.k.now permitted (suc c.loop-kind.kind)) =
    rw (c.is_permitted-permitted.ensures, add-one) at c.state_value.ensures ∙ ap answer value in
    let one = c.store_value-feasible.ensures in
    (kinds_more of.left_at.within c.loop-kind.invariant.0 is in-table (one.stored _ found), omega (arith, one.few, c.loop-kind.invariant.1))

pub returns-clause-stored : goal.returns-clause-stored
returns-clause-stored g c =
    let s = c.args.setup.now in
    let e : c.loop-kind.kind ≡ s.queue.kinds = omega (arith, c.loop-kind.auto.kind-end, c.loop-kind-test.false, s.prepared.kinds_are) in
    kinds_done c.requires.fillable.left_of.left_at.within (rw e at c.loop-kind.invariant.0)
