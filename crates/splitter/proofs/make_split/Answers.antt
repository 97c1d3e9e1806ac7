-- The table filled and searched, then 17 where no split was found, else both orders written.
use Rattle.std.proofs.Common.{◌≡◌, ap, ◌∙◌}
use Rattle.fields.specs.Lists.{filled}
use Rattle.problem.specs.OfQueue.{problem}
use Rattle.filling.proofs.Tables.{all_filled}
use Rattle.splitting.specs.Taken.{first_order, second_order}
use Rattle.split_search.specs.Searching.{Best}
use Rattle.splitter.proofs.Making.{best_of, few_jobs, may_write, ends_split}
use Rattle.splitter.proofs.make_split.Goals as goal
use Rattle.splitter.proofs.make_split.Goals.{After-split_orders-orders}

-- the bench is of the caller's queue
bench_setup : (c : After-split_orders-orders) → c.new-bench.result.filled.setup.now ≡ c.args.lent.now.setup.now
bench_setup c = c.new-bench.ensures.setup_value ∙ c.new.ensures.setup_value ∙ ap (λ s. s.now) c.fill.ensures.loan.0

-- the split taken, for the caller's queue
taken : (c : After-split_orders-orders) → Best c.args.lent.now.setup.now.queue c.args.second c.in_ok-split.split
taken c =
    let b = c.new-bench.ensures in
    best_of c.new-bench.result c.best_split.ensures (bench_setup c) b.second_value c.in_ok-split.split c.in_ok-split.ensures.ok_part

-- and both orders
orders : (c : After-split_orders-orders) → (c.split_orders-orders.result.first ≡ filled 60 (first_order (problem c.args.lent.now.setup.now.queue) c.args.second))
    × (c.split_orders-orders.result.second ≡ filled 60 (second_order (problem c.args.lent.now.setup.now.queue) c.args.second))
orders c =
    let b = c.new-bench.ensures in
    let o = c.split_orders-orders.ensures in
    rw (← (bench_setup c), ← b.second_value) (o.first_value, o.second_value)

pub new-requires : goal.new-requires
new-requires c = rw c.fill.ensures.loan.0 (all_filled c.fill.ensures.filled_table)

pub overflow_sub-rest : goal.overflow_sub-rest
overflow_sub-rest c =
    few_jobs c.args.lent.now.setup.now.valid c.requires.1.0 c.fill.ensures.filled_table (taken (goal.at.overflow_sub-rest c).After-split_orders-orders)

pub write_split-requires : goal.write_split-requires
write_split-requires c =
    let at = (goal.at.write_split-requires c).After-split_orders-orders in
    let o = orders at in
    may_write c.args.lent.now.setup.now.valid c.requires.1.0 c.fill.ensures.filled_table (taken at) c.number.ensures o.0 o.1 _ c.requires.1.1

pub returns-clause-value : goal.returns-clause-value
returns-clause-value c =
    let at = (goal.at.returns-clause-value c).After-split_orders-orders in
    let o = orders at in
    let w = c.write_split.ensures in
    (ends_split c.args.lent.now.setup.now.valid c.requires.1.0 c.fill.ensures.filled_table (taken at) c.number.ensures o.0 o.1 _ w.value w.buffer_after).0

pub returns-clause-buffer_after : goal.returns-clause-buffer_after
returns-clause-buffer_after c =
    let at = (goal.at.returns-clause-buffer_after c).After-split_orders-orders in
    let o = orders at in
    let w = c.write_split.ensures in
    (ends_split c.args.lent.now.setup.now.valid c.requires.1.0 c.fill.ensures.filled_table (taken at) c.number.ensures o.0 o.1 _ w.value w.buffer_after).1.1
