-- Each cutter's share is followed from its own row.
use Rattle.std.proofs.Common.{◌≡◌, ◌-◌, length, rules, arith, ap, ◌∙◌}
use Rattle.fields.specs.Lists.{filled}
use Rattle.sequencing.specs.Entries.{block}
use Rattle.problem.specs.OfQueue.{problem}
use Rattle.jobs_left.specs.Steps.{LeftOf}
use Rattle.solver.proofs.Following.{share_small, share_light}
use Rattle.split_search.proofs.Rest.{within, sums_within, rest_left}
use Rattle.split_search.proofs.Shares.{own_left, first_share_lem, second_share_lem, first_order_is, second_order_is}
use Rattle.split_search.proofs.Bench.split_orders.Goals as goal
use Rattle.split_search.proofs.Bench.split_orders.Goals.{After-new-own, After-without-rest}

pub new-own-requires-clause-left_small : goal.new-own-requires-clause-left_small
new-own-requires-clause-left_small c = share_small c.args.self.now.filled.setup.now c.kinds.ensures c.requires.left_at

pub new-own-requires-clause-weights_small : goal.new-own-requires-clause-weights_small
new-own-requires-clause-weights_small c = share_light c.args.self.now.filled.setup.now c.kinds.ensures

-- what the first cutter has
own_of : (c : After-new-own) → LeftOf (problem c.args.self.now.filled.setup.now.queue) c.new-own.result
own_of c = let own = c.new-own.ensures in own_left c.args.self.now c.requires c.kinds.ensures own.left_value own.index_value own.summed

-- what it leaves
rest_of : (c : After-without-rest) → LeftOf (problem c.args.self.now.filled.setup.now.queue) c.new-own.result
    → LeftOf (problem c.args.self.now.filled.setup.now.queue) c.without-rest.result
rest_of c own =
    let rest = c.without-rest.ensures in
    let long : length c.without-rest.result.left ≡ 5 = search rules in
    rest_left c.args.self.now own c.without-rest.result long rest.left_value rest.index_value rest.jobs_value rest.weight_value

mirrored : (c : After-without-rest) → c.without-rest.result.index ≡ block (problem c.args.self.now.filled.setup.now.queue) - 1 - c.args.split.now.first.index
mirrored c = omega (arith, c.without-rest.ensures.index_value, c.args.self.now.all_index, c.new-own.ensures.index_value)

pub without-rest-requires-clause-left_within : goal.without-rest-requires-clause-left_within
without-rest-requires-clause-left_within c = within c.args.self.now (own_of (goal.at.without-rest-requires-clause-left_within c).After-new-own)

pub without-rest-requires-clause-sums_within : goal.without-rest-requires-clause-sums_within
without-rest-requires-clause-sums_within c = sums_within c.args.self.now (own_of (goal.at.without-rest-requires-clause-sums_within c).After-new-own)

pub share_order-first-requires : goal.share_order-first-requires
share_order-first-requires c =
    let own = c.new-own.ensures in
    first_share_lem c.args.self.now c.requires c.kinds.ensures own.left_value own.index_value own.summed

pub share_order-other-requires : goal.share_order-other-requires
share_order-other-requires c =
    let place = goal.at.share_order-other-requires c in
    let here = place.After-without-rest in
    second_share_lem c.args.self.now c.requires c.without-rest.result (rest_of here (own_of place.After-new-own)) (mirrored here)

pub returns-clause-first_value : goal.returns-clause-first_value
returns-clause-first_value c = c.share_order-first.ensures ∙ rw c.new-own.ensures.index_value (ap (filled 60) (first_order_is c.args.self.now c.requires))

pub returns-clause-second_value : goal.returns-clause-second_value
returns-clause-second_value c =
    let place = goal.at.returns-clause-second_value c in
    let here = place.After-without-rest in
    c.share_order-other.ensures ∙ ap (filled 60) (second_order_is c.args.self.now c.requires c.without-rest.result (rest_of here (own_of place.After-new-own)) (mirrored here))
