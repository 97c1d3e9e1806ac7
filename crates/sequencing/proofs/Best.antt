-- The best order: the plan is a permitted order and costs what the recursion says, no permitted order costs less, and there is no plan exactly when no order is permitted.
-- Assumes nothing.
use mathlib.Core.List.{List, map}
use mathlib.Core.Logic.{inl, inr, ◌↔◌}
use mathlib.Core.Option.{Option, none, some}
use mathlib.Core.Path.{◌≡◌, refl, sym, ap, ◌∙◌}
use Prim.Native.Nat.{ℕ, suc, ◌-◌, ◌≤◌}
use native.Mathlib.Nat.{eq-zero-or-pos}
use native.Mathlib.Omega.{arith}
use lib.ListN.{length, length-map}
use Rattle.sequencing.specs.Lists.{at, upto, sum, count}
use Rattle.sequencing.specs.Problem.{Problem, T, kind, Proper, Exchange}
use Rattle.sequencing.specs.Orders.{IsOrder, SuccessionsPermitted, Permitted, cost}
use Rattle.sequencing.specs.States.{K, all_left, place, by_hand_in}
use Rattle.sequencing.specs.Recursion.{W, plan_cost, plan_kinds, plan_order}
use Rattle.sequencing.proofs.Counting.{from_in, from_le, from_pos}
use Rattle.sequencing.proofs.Orders.{order_counts}
use Rattle.sequencing.proofs.AllJobs.{at_all, sum_all, all_left_lem}
use Rattle.sequencing.proofs.JobsLeft.{left, left_count, jobs_count}
use Rattle.sequencing.proofs.Fills.{Fills, Assigned, assigned}
use Rattle.sequencing.proofs.Exchanging.{fills}
use Rattle.sequencing.proofs.Costs.{by_steps, cost_is}
use Rattle.sequencing.proofs.Options.{Upto}
use Rattle.sequencing.proofs.Recursion.{walk_is, cost_upto_lem}

module _ (P : Problem) (proper : Proper P) where
  start_counts : (z : ℕ) → count z (left P (kind P z) (all_left P)) ≡ count z (upto (T P))
  unfolding left
  start_counts z = elim (eq-zero-or-pos (count z (upto (T P)))) [
    | inl e ↦ omega (arith, left_count P (all_left P) z)
    | inr h ↦ (let q = from_in z 1 (T P) h in
        let w = proper z q.0 (omega arith) in
        let e : K P (kind P z) - at (all_left P) (kind P z) ≡ 0 = omega (arith, at_all P (kind P z) w.0 w.1) in
        rw e (jobs_count P z))
  ]

  place_start : suc (place P (all_left P)) ≡ 1
  place_start = omega (arith, sum_all P proper)

  -- ---- a sequence that fills gives an order

  module _ (xs : List ℕ) (f : Fills P (all_left P) xs) where
    start_assigned : Assigned P (all_left P) xs
    start_assigned = assigned P (all_left P) xs (all_left_lem P) f

    is_order : IsOrder P (by_hand_in P (all_left P) xs)
    is_order = record {
      whole = omega (arith, simp length-map at (ap length start_assigned.kinds), start_assigned.long, sum_all P proper);
      once = λ i l u. omega (arith, start_assigned.counts i, start_counts i, from_le i 1 (T P), from_pos i 1 (T P) l (omega arith));
    }

    is_permitted_lem : SuccessionsPermitted P P.start xs → Permitted P (by_hand_in P (all_left P) xs)
    is_permitted_lem g = record { places = rw place_start at start_assigned.permitted; successions = rw start_assigned.kinds g }

    costs : cost P (by_hand_in P (all_left P) xs) ≡ by_steps P (W P) P.start (all_left P) xs
    costs = cost_is P (by_hand_in P (all_left P) xs) (all_left P) (rw start_assigned.kinds f) ∙ ap (by_steps P (W P) P.start (all_left P)) start_assigned.kinds

  module _ (c : ℕ) (e : plan_cost P ≡ some c) where
    plan_fills : Fills P (all_left P) (plan_kinds P) × SuccessionsPermitted P P.start (plan_kinds P) × (c ≡ by_steps P (W P) P.start (all_left P) (plan_kinds P))
    unfolding plan_cost plan_kinds
    plan_fills = walk_is P (sum (all_left P)) P.start (all_left P) c refl e

    -- the plan's kinds are those of its order
    pub plan_kinds_lem : map (kind P) (plan_order P) ≡ plan_kinds P
    unfolding plan_order
    plan_kinds_lem = (start_assigned (plan_kinds P) plan_fills.0).kinds

    -- Demand 3: the plan's order is an order, is permitted, and costs, by its own finishes, what the recursion says
    pub plan_is : IsOrder P (plan_order P) × Permitted P (plan_order P) × (cost P (plan_order P) ≡ c)
    unfolding plan_order
    plan_is = let (f, g, e) = plan_fills in (is_order (plan_kinds P) f, is_permitted_lem (plan_kinds P) f g, costs (plan_kinds P) f ∙ sym e)

  -- ---- an order gives a sequence that fills

  module _ (ex : Exchange P) where
    module _ (o : List ℕ) (i : IsOrder P o) (p : Permitted P o) where
      pub order_fills : Fills P (all_left P) (map (kind P) o)
      order_fills = fills P ex (T P) (all_left P) o (sum_all P proper) i.whole (all_left_lem P) (λ z. order_counts P o i z ∙ sym (start_counts z)) (rw place_start p.places)

      order_upto : Upto (cost P o) (plan_cost P)
      unfolding plan_cost
      order_upto = rw (cost_is P o (all_left P) order_fills) (cost_upto_lem P (sum (all_left P)) P.start (all_left P) (map (kind P) o) refl (all_left_lem P) order_fills p.successions)

    -- Demand 3: every permitted order costs at least as much, those included that exchange jobs of one kind
    pub plan_least : (c : ℕ) → plan_cost P ≡ some c → (o : List ℕ) → IsOrder P o → Permitted P o → c ≤ cost P o
    plan_least c e o i p = rw e at (order_upto o i p)

    -- Refusal 17's "exactly": the recursion finds none exactly when no order is permitted
    pub no_plan : (plan_cost P ≡ none) ↔ ((o : List ℕ) → IsOrder P o → Permitted P o → ⊥)
    no_plan = ((λ e o i p. rw e at (order_upto o i p)), (λ never. go never (plan_cost P) refl))
      where
        go : ((o : List ℕ) → IsOrder P o → Permitted P o → ⊥) → (r : Option ℕ) → plan_cost P ≡ r → plan_cost P ≡ none
        go never none e = e
        go never (some c) e = let q = plan_is c e in absurd (never (plan_order P) q.0 q.1)
