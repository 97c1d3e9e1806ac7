-- 17 or the plan, by what solving, following and writing found.
-- Assumes nothing.
use Prim.Native.Nat.{ℕ, ◌≤◌}
use mathlib.Core.List.{List}
use mathlib.Core.Option.{some}
use mathlib.Core.Path.{◌≡◌, refl, ap, ◌∙◌}
use lib.ListN.{length}
use lib.Seq.{sets}
use borrow.Author.Tests.{le-leb}
use Rattle.std.specs.Prelude.{Ok, Err, Some, None}
use Rattle.refusal.specs.Answers.{Answer}
use Rattle.refusal.specs.declared.Reason.TheVariants.{NoOrder}
use Rattle.units.specs.Costs.{number_of}
use Rattle.units.proofs.Costs.{number_is}
use Rattle.fields.specs.Lists.{filled}
use Rattle.queue.specs.declared.Queue.{Queue}
use Rattle.queue.specs.Record.{Valid}
use Rattle.plan.specs.declared.Plan.{Plan}
use Rattle.plan.specs.Record.{Valid as PlanValid}
use Rattle.plan.specs.Writing.{message, write_plan, written_plan}
use Rattle.plan_laws.proofs.Theorems.{valid_judged}
use Rattle.sequencing.specs.Problem.{Problem}
use Rattle.sequencing.specs.Recursion.{plan_cost, plan_order}
use Rattle.sequencing.specs.Counts.{feasible_states}
use Rattle.sequencing.specs.Entries.{FilledTable}
use Rattle.problem.specs.OfQueue.{problem}
use Rattle.next_states.specs.declared.Least.{Least}
use Rattle.solver.specs.Solving.{first_choice}
use Rattle.solver.proofs.Start.{some_first, no_first}
use Rattle.best_order.specs.Endings.{solved, best_plan}
use Rattle.best_order.proofs.Plans.{valid_plan}
use Rattle.best_order.proofs.Ends.{Ends}

-- a valid plan is written
wrote : (p : Plan) (buffer : List ℕ) → PlanValid p → 77 ≤ length buffer
    → (write_plan p (length buffer) ≡ Ok (length (message p))) × (written_plan p buffer ≡ sets buffer 0 (message p))
unfolding write_plan written_plan
wrote p buffer v h = (rw (valid_judged p v, le-leb 77 (length buffer) h), rw (valid_judged p v, le-leb 77 (length buffer) h))

-- the plan of what was found
abbrev pub made : Queue → (cost states : ℕ) → List ℕ → Plan
made q cost states order = record { goal = q.goal; cost = cost; feasible_states = states; jobs = q.jobs; order = order }

-- what solving a queue finds: the table filled, the first choice, whose cost is the plan's, and the count of feasible states
pub record Solved (q : Queue) (table table' : List ℕ) (first : Least) (cost states : ℕ) : Type 0 where
  pub valid : Valid q
  pub fills : FilledTable (problem q) table table'
  pub found : Some first ≡ first_choice q
  pub cost_is : cost ≡ number_of first.cost
  pub states_are : states ≡ feasible_states (problem q)

module _ {q : Queue} {table table' : List ℕ} {first : Least} {cost states : ℕ} (s : Solved q table table' first cost states) where
  abbrev P : Problem
  P = problem q

  cost_found : plan_cost P ≡ some cost
  cost_found =
      let (c, e, first-is) = some_first q s.found in
      let same : cost ≡ c = s.cost_is ∙ number_is q.goal c (ap (λ r. r.cost) first-is) in
      rw same e

  module _ (buffer : List ℕ) (room : 77 ≤ length buffer) {order : List ℕ} (order_is : order ≡ filled 60 (plan_order P)) where
    is_best : made q cost states order ≡ best_plan q cost
    unfolding best_plan
    is_best = rw (s.states_are, order_is)

    written : (write_plan (made q cost states order) (length buffer) ≡ Ok (length (message (best_plan q cost))))
        × (written_plan (made q cost states order) buffer ≡ sets buffer 0 (message (best_plan q cost)))
    written = rw is_best (wrote (best_plan q cost) buffer (valid_plan q s.valid cost cost_found) room)

    pub ends_planned : {answer : Answer} {buffer' : List ℕ} → answer ≡ write_plan (made q cost states order) (length buffer)
        → buffer' ≡ written_plan (made q cost states order) buffer → Ends (solved q (plan_cost P)) answer table buffer table' buffer'
    ends_planned e h = rw cost_found (e ∙ written.0, (s.fills, h ∙ written.1))

-- where solving finds nothing the table is filled
pub ends_unplannable : (q : Queue) {table table' : List ℕ} (buffer : List ℕ) → FilledTable (problem q) table table' → None ≡ first_choice q
    → Ends (solved q (plan_cost (problem q))) (Err NoOrder) table buffer table' buffer
ends_unplannable q buffer fills e = rw (no_first q e) (refl, (fills, refl))
