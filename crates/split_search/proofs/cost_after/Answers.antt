-- The row's entry where it holds a value, else what a look finds.
use Rattle.std.proofs.Common.{arith}
use Rattle.next_states.proofs.Numbers.{blocks}
use Rattle.split_search.proofs.Rows.{row_block, row_entry, row_cost}
use Rattle.split_search.proofs.cost_after.Goals as goal

pub state_entry-entry-requires : goal.state_entry-entry-requires
state_entry-entry-requires c = row_block c.args.solved.now c.requires.0 c.if-row-gt0.true c.requires.1

pub bounds-solved-entry : goal.bounds-solved-entry
bounds-solved-entry c = row_entry c.args.solved.now c.requires.0 c.if-row-gt0.true c.requires.1 (c.state_entry-entry.ensures _ (blocks c.args.solved.now.setup.now))

pub offset_bounds-solved-entry : goal.offset_bounds-solved-entry
offset_bounds-solved-entry c = omega (arith, row_entry c.args.solved.now c.requires.0 c.if-row-gt0.true c.requires.1 (c.state_entry-entry.ensures _ (blocks c.args.solved.now.setup.now)))

pub returns-in-Some : goal.returns-in-Some
returns-in-Some c = rw c.cost_in.ensures (row_cost c.args.solved.now c.requires.0 c.if-row-gt0.true c.requires.1 (c.state_entry-entry.ensures _ (blocks c.args.solved.now.setup.now)) c.in-Some.ensures)
