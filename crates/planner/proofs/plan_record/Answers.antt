-- 15 or 16, or what solving finds.
use Rattle.std.proofs.Common.{◌≡◌, sym, ◌∙◌, rules, Err}
use mathlib.Core.List.{List}
use Prim.Native.Nat.{ℕ}
use Rattle.best_order.specs.Endings.{TableEnding, LeavesTable}
use Rattle.best_order.proofs.Endings.{room_enough, room_refused, room_accepted}
use Rattle.best_order.proofs.Ends.{ends_refused}
use Rattle.planner.proofs.plan_record.Goals as goal

pub returns-in_err-judge_room : goal.returns-in_err-judge_room
returns-in_err-judge_room c =
    let e : c.from_residual.result ≡ Err c.in_err-judge_room.field-0.0 = search rules in
    let judged = rw (c.needed_entries.ensures, c.prepare-setup.ensures) at c.judge_room.ensures in
    let ends = ends_refused c.args.table.now c.args.buffer.now (room_refused c.args.queue.queue _ _ _ (sym judged ∙ c.in_err-judge_room.was)) in
    rw e (record { value = ends.0; leaves_table = ends.1.0; buffer_after = ends.1.1 })

pub invariant_of-lent : goal.invariant_of-lent
invariant_of-lent c =
    let judged = rw (c.needed_entries.ensures, c.prepare-setup.ensures) at c.judge_room.ensures in
    let room = room_enough _ _ _ (sym judged ∙ c.in_ok-judge_room.was) in
    record { room = rw c.prepare-setup.ensures room.1 }

pub make_plan-requires : goal.make_plan-requires
make_plan-requires c =
    let judged = rw (c.needed_entries.ensures, c.prepare-setup.ensures) at c.judge_room.ensures in
    (room_enough _ _ _ (sym judged ∙ c.in_ok-judge_room.was)).0

back : (e : TableEnding) (table lent : List ℕ) {table' : List ℕ} → table' ≡ lent → LeavesTable e table lent → LeavesTable e table table'
back e table lent same left = rw same left

pub returns : goal.returns
returns c =
    let judged = rw (c.needed_entries.ensures, c.prepare-setup.ensures) at c.judge_room.ensures in
    let accepted = room_accepted c.args.queue.queue _ _ (sym judged ∙ c.in_ok-judge_room.was) in
    let made = c.make_plan.ensures in
    let same = c.prepare-setup.ensures in
    record { value = rw accepted (rw same at made.value); leaves_table = back _ c.args.table.now c.make_plan.new.lent.table.now (search rules) (rw accepted (rw same at made.leaves_table)); buffer_after = rw accepted (rw same at made.buffer_after) }
