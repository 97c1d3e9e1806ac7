-- What each cutter costs, and what both come to.
use Rattle.std.proofs.Common.{◌≡◌, false, length, rules, sym, ◌∙◌}
use Rattle.split_search.specs.Searching.{exceeds}
use Rattle.split_search.proofs.Rest.{within, sums_within, mirrored_is, rest_left}
use Rattle.split_search.proofs.Costs.{no_first, dearer, one_unit_with, no_second, may_add, both_cost, spared, spared_none}
use Rattle.split_search.proofs.Bench.split_cost.Goals as goal
use Rattle.split_search.proofs.Bench.split_cost.Goals.{in-Some+else-less, in_default}

pub without-rest-requires-clause-left_within : goal.without-rest-requires-clause-left_within
without-rest-requires-clause-left_within c = within c.args.self.now c.requires.left_of

pub without-rest-requires-clause-sums_within : goal.without-rest-requires-clause-sums_within
without-rest-requires-clause-sums_within c = sums_within c.args.self.now c.requires.left_of

pub cost_after-requires-2 : goal.cost_after-requires-2
cost_after-requires-2 c =
    let rest = c.without-rest.ensures in
    let long : length c.without-rest.result.left ≡ 5 = search rules in
    (rest_left c.args.self.now c.requires.left_of c.without-rest.result long rest.left_value rest.index_value rest.jobs_value rest.weight_value, c.args.self.now.second_in)

pub returns-in_err-cost : goal.returns-in_err-cost
returns-in_err-cost c = c.from_residual.ensures ∙ no_first c.args.self.now c.requires.left_of c.args.held.now c.in_err-cost.ensures

pub less-requires : goal.less-requires
less-requires c =
    let unit = rw c.in-Some.is at c.requires.in_unit in
    one_unit_with c.args.self.now c.requires.left_of c.args.held.now c.in_ok-cost.ensures c.in-Some.split unit

pub returns-then-less : goal.returns-then-less
returns-then-less c = dearer c.args.self.now c.requires.left_of c.args.held.now c.in_ok-cost.ensures c.in-Some.is (sym c.less.ensures ∙ c.if-less.true)

pub returns-in_err-other : goal.returns-in_err-other
returns-in_err-other c =
    let b = c.args.self.now in
    let w = c.requires.left_of in
    c.from_residual-in_err-other.ensures
    ∙ no_second b w c.args.held.now c.in_ok-cost.ensures (c.without-rest.ensures.index_value ∙ mirrored_is b w) c.in_err-other.ensures

pub together-requires : goal.together-requires
together-requires c =
    let b = c.args.self.now in
    let w = c.requires.left_of in
    may_add b w c.args.held.now c.in_ok-cost.ensures (c.without-rest.ensures.index_value ∙ mirrored_is b w) c.in_ok-other.ensures

pub returns : goal.returns
returns c =
    let b = c.args.self.now in
    let w = c.requires.left_of in
    let enough : exceeds _ c.args.held.now ≡ false = elim c.match-held.branch [
      | in-Some+else-less t ↦ spared b.filled.setup.now.queue.goal _ c.in_ok-cost.ensures t.in-Some.is (sym t.less.ensures ∙ t.if-less.false)
      | in_default t ↦ spared_none _ t.in_default.is
    ] in
    rw c.together.ensures (both_cost b w c.args.held.now c.in_ok-cost.ensures (c.without-rest.ensures.index_value ∙ mirrored_is b w) c.in_ok-other.ensures enough)
