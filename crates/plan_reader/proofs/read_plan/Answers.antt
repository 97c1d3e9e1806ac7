-- The order that was read is the whole order; the steps before it and behind it follow the definition.
use Rattle.std.proofs.Common.{◌≡◌, ◌≤◌, ℕ, List, replicate, rules}
use Rattle.fields.proofs.Loops.{front_found}
use Rattle.plan.specs.Reading.{order, plan}
use Rattle.plan_reader.proofs.Orders.{order_stored}
use Rattle.plan_reader.proofs.read_plan.Goals as goal

pub returns : goal.returns
unfolding plan
returns c =
    let same : c.read_field-3.new.input.bytes ≡ c.args.bytes = search rules in
    let s = c.args.bytes.now in
    let t = c.in_ok-jobs.jobs in
    let few : t ≤ 60 = search rules in
    let zeros : List ℕ = replicate 60 0 in
    let (jobs, e) = front_found t zeros few (λ k. order k s c.read_field-3.new.input.at) _ (rw same at c.in_ok-read_order.ensures.value.1) in
    let is = order_stored t zeros _ few s _ (rw same at c.read_order.ensures.out_after) jobs _ e in
    search rules
