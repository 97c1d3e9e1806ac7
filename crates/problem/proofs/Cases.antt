-- 01's small queues, computed from the definitions.
-- Assumes nothing.
use mathlib.Core.List.{List, [], ◌∷◌, flat_map, Memᴰ}
use mathlib.Core.Logic.{◌↔◌}
use mathlib.Core.Path.{refl}
use Prim.Native.Nat.{ℕ}
use Rattle.sequencing.specs.Lists.{from, count, sum, weigh, filter}
use Rattle.sequencing.specs.Orders.{cost, finishes, makespan, weighted_completion}
use Rattle.sequencing.specs.States.{jobs_of, all_left, by_hand_in}
use Rattle.sequencing.specs.Least.{least, arg_least}
use Rattle.sequencing.specs.Recursion.{W, to_go, value, choice, walk, plan_cost, plan_kinds, plan_order}
use Rattle.sequencing.specs.Entries.{size, digits, entry_kind, entry_left}
use Rattle.sequencing.specs.Counts.{feasible_states}
use Rattle.fields.specs.Lists.{tabulate}
use Rattle.queue.specs.Reading.{placed}
use Rattle.problem.specs.PlaceRule.{allowed}
use Rattle.problem.specs.OfQueue.{problem}
use Rattle.problem.specs.Cases.{A, B, Cases}
use Rattle.problem.proofs.PermittedOrders.{permitted_orders, permitted_orders_lem}

-- the list of permitted orders goes by their numbers; 01 names the second and the third of A the other way round
last_exchanged : {X : Type 0} {o a b c : List ℕ} → X ↔ Memᴰ o (a ∷ b ∷ c ∷ []) → X ↔ Memᴰ o (a ∷ c ∷ b ∷ [])
last_exchanged f = ((λ x. go (f.0 x)), (λ m. f.1 (go m)))
  where
    go : {o a b c : List ℕ} → Memᴰ o (a ∷ b ∷ c ∷ []) → Memᴰ o (a ∷ c ∷ b ∷ [])
    go (Memᴰ.head e) = Memᴰ.head e
    go (Memᴰ.tail (Memᴰ.head e)) = Memᴰ.tail (Memᴰ.tail (Memᴰ.head e))
    go (Memᴰ.tail (Memᴰ.tail (Memᴰ.head e))) = Memᴰ.tail (Memᴰ.head e)
    go (Memᴰ.tail (Memᴰ.tail (Memᴰ.tail x))) = elim x [ ]

pub cases : Cases
unfolding plan_cost plan_kinds plan_order feasible_states value to_go choice walk by_hand_in least arg_least W all_left jobs_of sum weigh filter from count size digits entry_kind entry_left cost finishes makespan weighted_completion tabulate placed allowed permitted_orders flat_map
cases = record {
  A_exactly_three = λ o. last_exchanged (permitted_orders_lem (problem A) o);
  A_costs = refl;
  A_plan = refl;
  A_kept = refl;
  A_finishes = refl;
  A_entries = refl;
  B_exactly_three = λ o. last_exchanged (permitted_orders_lem (problem B) o);
  B_costs = refl;
  B_plan = refl;
  B_kept = refl;
  C_plan = refl;
  D_plan = refl;
  E_none = refl;
  F_plan = refl;
  F_kept = refl;
  F_none = refl;
  G_plan = refl;
  G_kept = refl;
  G_entries = refl;
  H_plan = refl;
  last_finish = refl;
  total_waiting = refl;
  chapter_5_entries = refl;
}
