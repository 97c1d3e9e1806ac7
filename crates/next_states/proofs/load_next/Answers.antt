-- Each turn loads one kind more; the entry that it reads is that of whichever problem the arrays number.
use Rattle.std.proofs.Common.{ℕ, suc, List, sym, ◌∙◌, arith}
use Rattle.sequencing.specs.Entries.{k_at}
use Rattle.next_states.proofs.Numbers.{left_is, some_left, steppable, entry_in}
use Rattle.next_states.proofs.Candidates.{loading_start, loading_more, loading_none, loading_done, read_next, no_next}
use Rattle.next_states.proofs.load_next.Goals as goal
use Rattle.next_states.proofs.load_next.Goals.{then-k-x-ne0, else-k-x-ne0}

pub loop-x-init : goal.loop-x-init
loop-x-init c P w = loading_start _

pub next_entry-requires : goal.next_entry-requires
next_entry-requires c = let (P, (w, room)) = c.requires in steppable w c.loop-x.x c.if-k-x-ne0.true (omega arith)

pub offset_bounds-table-next_entry : goal.offset_bounds-table-next_entry
offset_bounds-table-next_entry c =
    let (P, (w, room)) = c.requires in
    omega (arith, entry_in w c.loop-x.x c.if-k-x-ne0.true (c.next_entry.ensures P w.numbers w.left_at.within))

pub bounds-table-next_entry : goal.bounds-table-next_entry
bounds-table-next_entry c =
    let (P, (w, room)) = c.requires in
    omega (arith, entry_in w c.loop-x.x c.if-k-x-ne0.true (c.next_entry.ensures P w.numbers w.left_at.within))

pub loop-x-preserved : goal.loop-x-preserved
loop-x-preserved c P w =
    let k : List ℕ = k_at P c.args.k.now.index in
    let x : ℕ = c.loop-x.x in
    elim c.if-k-x-ne0.branch [
      | then-k-x-ne0 t ↦
          let some = some_left w x t.if-k-x-ne0.true in
          let read = read_next P c.args.table.now k (suc x) some (t.next_entry.ensures P w.numbers w.left_at.within some) in
          rw t.next-is (loading_more _ (c.loop-x.invariant P w) c.loop-x-test.true read)
      | else-k-x-ne0 t ↦
          let none = no_next P c.args.table.now k (suc x) (sym (left_is w.left_at (suc x) (omega arith)) ∙ t.if-k-x-ne0.false) in
          rw t.next-is (loading_none _ (c.loop-x.invariant P w) c.loop-x-test.true none)
    ]

pub returns : goal.returns
returns c P w = loading_done _ (c.loop-x.invariant P w) c.loop-x-test.false
