-- A share is a queue of its own: its jobs and successions are the message's, and its order costs, on its cutter, what its plan says and no more than
-- any other.
-- Assumes nothing.
use mathlib.Core.List.{List, [], ◌∷◌, map, map-map}
use mathlib.Core.Logic.{◌↔◌}
use mathlib.Core.Option.{Option, none, some}
use mathlib.Core.Path.{◌≡◌, refl, sym, ap, ◌∙◌, fun_ext}
use Prim.Native.Nat.{ℕ, suc, ◌≤◌, ◌<◌}
use native.Mathlib.Omega.{arith}
use lib.Dec.{eqb}
use lib.ListN.{length, length-map}
use Rattle.sequencing.specs.Lists.{at, upto, filter, count}
use Rattle.sequencing.specs.Problem.{Problem, T, kind, Proper, NoneForbidden, Exchange}
use Rattle.sequencing.specs.Orders.{IsOrder, PlacesPermitted, SuccessionsPermitted, Permitted, cost}
use Rattle.sequencing.specs.States.{jobs_of, K}
use Rattle.sequencing.specs.Recursion.{plan_cost, plan_order}
use Rattle.sequencing.proofs.Counting.{count_at, from_le, from_pos, length_from}
use Rattle.sequencing.proofs.Vectors.{at_minus}
use Rattle.sequencing.proofs.Orders.{order_counts}
use Rattle.sequencing.proofs.Best.{plan_is, plan_least, no_plan}
use Rattle.sequencing.proofs.Unforbidden.{permitted_free}
use Rattle.splitting.specs.Splits.{on_cutter}
use Rattle.splitting.specs.Shares.{share, share_order}
use Rattle.splitting.proofs.Lists.{at_map, map_at, map_filter, count_map}

-- hand-in order is an order
pub in_turn_lem : (Q : Problem) → IsOrder Q (upto (T Q))
in_turn_lem Q = record { whole = length_from 1 (T Q); once = λ i l u. omega (arith, from_le i 1 (T Q), from_pos i 1 (T Q) l (omega arith)) }

module _ (P : Problem) (s : ℕ) (js : List ℕ) where
  abbrev Q : Problem
  Q = share P s js

  share_T : T Q ≡ length js
  share_T = length-map js (kind P)

  share_kind : (i : ℕ) → kind Q i ≡ kind P (at js i)
  share_kind = at_map (kind P) refl js

  share_upto : map (at js) (upto (T Q)) ≡ js
  share_upto = rw share_T (map_at js)

  -- its jobs of kind x are the message's in it
  pub share_jobs : (x : ℕ) → map (at js) (jobs_of Q x) ≡ filter (λ i. eqb x (kind P i)) js
  unfolding jobs_of
  share_jobs x =
      ap (λ p. map (at js) (filter p (upto (T Q)))) (fun_ext (λ i. ap (eqb x) (share_kind i)))
      ∙ map_filter (at js) (λ i. eqb x (kind P i)) (upto (T Q))
      ∙ ap (filter (λ i. eqb x (kind P i))) share_upto

  pub share_K : (x : ℕ) → K Q x ≡ length (filter (λ i. eqb x (kind P i)) js)
  share_K x = sym (length-map (jobs_of Q x) (at js)) ∙ ap length (share_jobs x)

  -- an order has the same kinds in the message's job numbers
  share_kinds : (o : List ℕ) → map (kind Q) o ≡ map (kind P) (map (at js) o)
  share_kinds o = ap (λ f. map f o) (fun_ext share_kind) ∙ sym (map-map (kind P) (at js) o)

  -- so it costs the same ..
  share_cost : (o : List ℕ) → cost Q o ≡ cost (on_cutter P s) (map (at js) o)
  unfolding cost
  share_cost o = rw (share_kinds o) refl

  -- .. and its successions are the message's
  successions_in : (L : ℕ) (xs : List ℕ) → SuccessionsPermitted Q L xs ↔ SuccessionsPermitted P L xs
  unfolding SuccessionsPermitted
  successions_in L [] = ((λ g. g), (λ g. g))
  successions_in L (x ∷ xs) = ((λ g. (g.0, (successions_in x xs).0 g.1)), (λ g. (g.0, (successions_in x xs).1 g.1)))

  all_places : (p : ℕ) (o : List ℕ) → PlacesPermitted Q p o
  unfolding PlacesPermitted
  all_places p [] = tt
  all_places p (i ∷ o) = (tt, all_places (suc p) o)

  share_exchange : Exchange Q
  share_exchange i i' p p' a b c d e f g = (tt, tt)

  -- its jobs as they are listed
  as_listed : SuccessionsPermitted P s (map (kind P) js) → Permitted Q (upto (T Q))
  as_listed g = record {
    places = all_places 1 (upto (T Q));
    successions = rw (share_kinds (upto (T Q)), share_upto) ((successions_in s (map (kind P) js)).1 g);
  }

  -- what its plan says: its order has its jobs, has no forbidden succession, and costs that on its cutter
  pub record Planned (c : ℕ) : Type 0 where
    pub plan : plan_cost Q ≡ some c
    pub jobs : (z : ℕ) → count z (share_order P s js) ≡ count z js
    pub successions : SuccessionsPermitted P s (map (kind P) (share_order P s js))
    pub costs : cost (on_cutter P s) (share_order P s js) ≡ c

  module _ (proper : Proper P) (among : (z : ℕ) → 0 < count z js → (1 ≤ z) × (z ≤ T P)) where
    pub share_proper : Proper Q
    share_proper i l u =
        let q = among (at js i) (rw (at_minus js i l) (count_at js _ (omega (arith, share_T)))) in
        rw (share_kind i) (proper (at js i) q.0 q.1)

    -- where nothing is forbidden, nothing is in its jobs as they are listed
    pub listed_free : NoneForbidden P → s ≤ P.N → SuccessionsPermitted P s (map (kind P) js)
    listed_free free h =
        let p = (permitted_free Q free share_proper h (upto (T Q)) (in_turn_lem Q)).1 (all_places 1 (upto (T Q))) in
        rw (share_kinds (upto (T Q)), share_upto) at ((successions_in s _).0 p.successions)

    pub planned : (c : ℕ) → plan_cost Q ≡ some c → Planned c
    unfolding share_order
    planned c e =
        let m = plan_is Q share_proper c e in
        record {
          plan = e;
          jobs = λ z. count_map (at js) (plan_order Q) (upto (T Q)) (order_counts Q (plan_order Q) m.0) z ∙ ap (count z) share_upto;
          successions = rw (share_kinds (plan_order Q)) at ((successions_in s _).0 m.1.successions);
          costs = sym (share_cost (plan_order Q)) ∙ m.2;
        }

    -- where its jobs as they are listed have no forbidden succession, it has a plan, and they cost no less
    pub planned_least : SuccessionsPermitted P s (map (kind P) js) → (c : ℕ) × (plan_cost Q ≡ some c) × (c ≤ cost (on_cutter P s) js)
    planned_least g = go (plan_cost Q) refl
      where
        go : (r : Option ℕ) → plan_cost Q ≡ r → (c : ℕ) × (plan_cost Q ≡ some c) × (c ≤ cost (on_cutter P s) js)
        go none e = absurd ((no_plan Q share_proper share_exchange).0 e (upto (T Q)) (in_turn_lem Q) (as_listed g))
        go (some c) e =
            (c, e, rw (share_cost (upto (T Q)), share_upto) at (plan_least Q share_proper share_exchange c e (upto (T Q)) (in_turn_lem Q) (as_listed g)))
