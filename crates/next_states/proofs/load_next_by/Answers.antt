-- Each turn loads one kind more; the entry that a step gives is that of whichever problem the steps are of.
use Rattle.std.proofs.Common.{ℕ, suc, List, sym, ◌∙◌, arith}
use Rattle.sequencing.specs.Entries.{k_at}
use Rattle.next_states.proofs.Numbers.{left_is, some_left, step_entry, entry_in}
use Rattle.next_states.proofs.Candidates.{loading_start, loading_more, loading_none, loading_done, read_next, no_next}
use Rattle.next_states.proofs.load_next_by.Goals as goal
use Rattle.next_states.proofs.load_next_by.Goals.{then-k-x-ne0, else-k-x-ne0}

pub loop-x-init : goal.loop-x-init
loop-x-init c P of w steps room = loading_start _

pub offset_bounds-table-k : goal.offset_bounds-table-k
offset_bounds-table-k c =
    let (P, (of, (w, (steps, room)))) = c.requires in
    omega (arith, entry_in w c.loop-x.x c.if-k-x-ne0.true (λ some. step_entry w c.loop-x.x c.if-k-x-ne0.true (omega arith) _ steps))

pub bounds-table-k : goal.bounds-table-k
bounds-table-k c =
    let (P, (of, (w, (steps, room)))) = c.requires in
    omega (arith, entry_in w c.loop-x.x c.if-k-x-ne0.true (λ some. step_entry w c.loop-x.x c.if-k-x-ne0.true (omega arith) _ steps))

pub loop-x-preserved : goal.loop-x-preserved
loop-x-preserved c P of w steps room =
    let k : List ℕ = k_at P c.args.k.now.index in
    let x : ℕ = c.loop-x.x in
    elim c.if-k-x-ne0.branch [
      | then-k-x-ne0 t ↦
          let some = some_left w x t.if-k-x-ne0.true in
          let read = read_next P c.args.table.now k (suc x) some (step_entry w x t.if-k-x-ne0.true (omega (arith, room)) _ steps) in
          rw t.next-is (loading_more _ (c.loop-x.invariant P of w steps room) c.loop-x-test.true read)
      | else-k-x-ne0 t ↦
          let none = no_next P c.args.table.now k (suc x) (sym (left_is w.left_at (suc x) (omega arith)) ∙ t.if-k-x-ne0.false) in
          rw t.next-is (loading_none _ (c.loop-x.invariant P of w steps room) c.loop-x-test.true none)
    ]

pub returns : goal.returns
returns c P of w steps room = loading_done _ (c.loop-x.invariant P of w steps room) c.loop-x-test.false
