-- `all` answers as the recursion does.
use Rattle.std.proofs.Common.{rules}
use Rattle.std.proofs.iter.runs.Made.{chains}
use Rattle.plan.specs.Record.{fresh}
use Rattle.plan_writer.proofs.Fresh.{in_order_is}
use Rattle.plan_writer.proofs.all_fresh.Goals as goal

pub returns : goal.returns
returns c = in_order_is (fresh c.args.jobs) c.args.order.now 0 _ (λ e i h. search (rules, chains)) (λ e. search (rules, chains))
