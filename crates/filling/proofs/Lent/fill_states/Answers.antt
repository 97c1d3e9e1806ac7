-- Each way stores what the entries get.
use Rattle.std.proofs.Common.{ℕ, suc, Bool, ◌≡◌, ◌<◌, ◌+◌, sym, ap, ◌∙◌, rules, get_or}
use Rattle.std.proofs.Math.Option.{some, none}
use Rattle.sequencing.specs.Least.{only}
use Rattle.jobs_left.specs.Kinds.{kind_at}
use Rattle.next_states.specs.NextStates.{answer, none_of}
use Rattle.filling.specs.Filling.{in_place}
use Rattle.filling.proofs.States.{slot_in_places, entry_last, entry_none}
use Rattle.filling.proofs.Lent.fill_states.Goals as goal

pub store_states-requires-clause-callable : goal.store_states-requires-clause-callable
store_states-requires-clause-callable c x h =
    let s = c.args.setup.now in
    let slot : (x < 5) × ((kind_at s.layout.kinds (suc x)).slot + get_or c.args.k.now.left x 0 < 65) = slot_in_places s c.requires.fillable.left_of x h in
    search (rules, slot)

pub returns-then-k-eq0-clause-stored : goal.returns-then-k-eq0-clause-stored
returns-then-k-eq0-clause-stored c = c.store_states.ensures.stored _ (λ x r h e.
    let a = c.args in
    let s = a.setup.now in
    let permitted : ℕ → Bool = in_place a.k.now.left s.layout.kinds a.places.now a.here in
    let is : r ≡ answer (only (permitted (suc x)) (some 0)) = search rules in
    is ∙ ap answer (entry_last s.queue a.self.now.table.now a.k.now permitted c.if-k-eq0.true (suc x)))

pub returns-then-none_next-clause-stored : goal.returns-then-none_next-clause-stored
returns-then-none_next-clause-stored c = c.store_states-then-none_next.ensures.stored _ (λ x r h e.
    let a = c.args in
    let s = a.setup.now in
    let permitted : ℕ → Bool = in_place a.k.now.left s.layout.kinds a.places.now a.here in
    let found = ap none_of (sym (rw (sym c.requires.lent) at c.next_entries-next.ensures)) ∙ sym c.none_next.ensures ∙ c.if-none_next.true in
    let is : r ≡ answer none = search rules in
    is ∙ ap answer (entry_none s.queue a.self.now.table.now a.k.now permitted c.if-k-eq0.false found (suc x)))
