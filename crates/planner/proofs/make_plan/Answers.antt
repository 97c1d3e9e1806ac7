-- The table filled, then 17 where nothing was found, else the order followed and written.
use Rattle.std.proofs.Common.{◌≡◌, sym, ◌∙◌, rules, Some, Err}
use Rattle.std.specs.Prelude.{Result}
use Rattle.refusal.specs.Answers.{Answer}
use Rattle.refusal.specs.declared.Reason.{Reason}
use Rattle.refusal.specs.declared.Reason.TheVariants.{NoOrder}
use Rattle.next_states.specs.declared.Least.{Least}
use Rattle.filling.proofs.Tables.{all_filled}
use Rattle.solver.specs.Solving.{first_choice}
use Rattle.solver.proofs.Start.{start_share, order_followed}
use Rattle.planner.proofs.Making.{Solved, ends_unplannable, ends_planned}
use Rattle.planner.proofs.make_plan.Goals as goal

-- one reason in two kinds of answers
same_reason : {a b : Reason} → ◌≡◌ {A = Result Least Reason} (Err a) (Err b) → ◌≡◌ {A = Answer} (Err a) (Err b)
same_reason e = cc

pub returns-in_err-first-clause-value : goal.returns-in_err-first-clause-value
returns-in_err-first-clause-value c =
    let told = c.solve-solution.ensures in
    let none = c.in_err-first.ensures.ok_part in
    let e : c.from_residual.result ≡ Err c.in_err-first.field-0.0 = search rules in
    let why : ◌≡◌ {A = Answer} (Err c.in_err-first.field-0.0) (Err NoOrder) = same_reason (rw none at c.in_err-first.ensures.value) in
    e ∙ why ∙ (ends_unplannable c.args.lent.now.setup.now.queue c.args.buffer.now told.filled_table (sym none ∙ told.first_choice_value)).0

pub new-requires : goal.new-requires
new-requires c = let told = c.solve-solution.ensures in rw told.loan.0 (all_filled told.filled_table)

pub follow-order-requires : goal.follow-order-requires
follow-order-requires c =
    let told = c.solve-solution.ensures in
    let all = rw told.loan.0 at c.all_left-all.ensures in
    rw (c.new.ensures.setup_value, told.loan.0)
    (start_share c.args.lent.now.setup.now.queue all.left_of all.index_value (sym c.in_ok-first.ensures.ok_part ∙ told.first_choice_value))

pub returns : goal.returns
returns c =
    let s = c.args.lent.now.setup.now in
    let told = c.solve-solution.ensures in
    let all = rw told.loan.0 at c.all_left-all.ensures in
    let found : Some c.in_ok-first.first ≡ first_choice s.queue = sym c.in_ok-first.ensures.ok_part ∙ told.first_choice_value in
    let follows = rw (c.new.ensures.setup_value, told.loan.0) at c.follow-order.ensures in
    let made : Solved s.queue c.args.lent.now.table.now c.solve-solution.new.lent.table.now c.in_ok-first.first c.number.result c.solve-solution.result.feasible_states =
    record { valid = s.valid; fills = told.filled_table; found = found; cost_is = c.number.ensures; states_are = told.feasible_states_value } in
    let written = rw told.loan.0 at c.write_plan.ensures in
    let ends = ends_planned made c.args.buffer.now c.requires (order_followed s.queue all.left_of all.index_value found follows) written.value written.buffer_after in
    record { loan = told.loan; value = ends.0; leaves_table = ends.1.0; buffer_after = ends.1.1 }
