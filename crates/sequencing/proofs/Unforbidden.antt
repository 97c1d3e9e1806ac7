-- A queue in which nothing is forbidden is one of 01: its permitted orders, costs, kept states, values, plan and count are by 01's own definitions.
-- Assumes nothing.
use mathlib.Core.Bool.{cond}
use mathlib.Core.List.{List, [], ◌∷◌, map}
use mathlib.Core.Logic.{inl, inr, ◌↔◌, ◌≢◌}
use mathlib.Core.Option.{Option, none, some}
use mathlib.Core.Path.{◌≡◌, refl, sym, ap, ◌∙◌, fun_ext}
use mathlib.Mathlib.Data.Bool.Basic.{dichotomy}
use Prim.Native.Nat.{ℕ, zero, suc, ◌+◌, ◌*◌, ◌≤◌, ◌<◌}
use native.Mathlib.Omega.{arith}
use lib.Dec.{ltb, ltb→lt, eqb}
use Rattle.sequencing.specs.Lists.{at, from, sum, count}
use Rattle.sequencing.specs.Problem.{Problem, T, kind, Proper, NoneForbidden}
use Rattle.sequencing.specs.Orders.{IsOrder, PlacesPermitted, SuccessionsPermitted, Permitted, finishes, makespan, weighted_completion, cost}
use Rattle.sequencing.specs.States.{complete, all_left, IsLeft, IsPair, by_hand_in}
use Rattle.sequencing.specs.Least.{only, plus, least, arg_least}
use Rattle.sequencing.specs.Feasible.{Feasible}
use Rattle.sequencing.specs.Entries.{entries, entry_kind, entry_left}
use Rattle.sequencing.specs.Counts.{valued, feasible_states}
use Rattle.sequencing.specs.Recursion.{W, permit, step, to_go, cost_to_go, value, choice, walk, plan_cost, plan_kinds, plan_order}
use Rattle.sequencing.specs.Unforbidden.{finishes₁, gap₁, cost₁, Feasible₁, step₁, to_go₁, value₁, choice₁, walk₁, OfScope}
use Rattle.sequencing.proofs.Counting.{one_cases, one_self, from_in}
use Rattle.sequencing.proofs.Vectors.{complete_sum, at_in}
use Rattle.sequencing.proofs.AllJobs.{all_left_lem}
use Rattle.sequencing.proofs.JobsLeft.{complete_left, next_pair}
use Rattle.sequencing.proofs.Options.{plus_gap_seconds}
use Rattle.sequencing.proofs.Least.{smallest}
use Rattle.sequencing.proofs.Equations.{cost_some_left}
use Rattle.sequencing.proofs.Recursion.{value_some, choice_some}
use Rattle.sequencing.proofs.Orders.{order_counts}
use Rattle.sequencing.proofs.Entries.{pair_in}
use Rattle.sequencing.proofs.Sums.{sum_same}

-- ---- costs

-- 01's finishes are those by the gaps' seconds
finishes_are : (P : Problem) (L t : ℕ) (xs : List ℕ) → finishes P.gap L t xs ≡ finishes₁ (gap₁ P) L t xs
unfolding finishes finishes₁
finishes_are P L t [] = refl
finishes_are P L t (x ∷ xs) = ap (λ fs. (t + gap₁ P L x) ∷ fs) (finishes_are P x (t + gap₁ P L x) xs)

cost_free : (P : Problem) (o : List ℕ) → cost P o ≡ cost₁ P o
unfolding cost cost₁
cost_free P o =
    ap (λ fs. cond (eqb P.goal 1) (makespan 0 fs) (weighted_completion P.weight (map (kind P) o) fs)) (finishes_are P P.start 0 (map (kind P) o))

module _ (P : Problem) (free : NoneForbidden P) where
  -- ---- permitted orders and feasible states

  -- any sequence of the kinds 1 to N has its successions permitted
  pub successions_free : (L : ℕ) (xs : List ℕ) → L ≤ P.N → ((j : ℕ) → 0 < count j xs → (1 ≤ j) × (j ≤ P.N)) → SuccessionsPermitted P L xs
  unfolding SuccessionsPermitted count
  successions_free L [] l h = tt
  successions_free L (x ∷ xs) l h =
      let q = h x (omega (arith, one_self x)) in
      (free L x l q.0 q.1, successions_free x xs q.1 (λ j c. h j (omega arith)))

  kinds_in : Proper P → (o : List ℕ) → ((z : ℕ) → 0 < count z o → (1 ≤ z) × (z ≤ T P)) → (j : ℕ) → 0 < count j (map (kind P) o) → (1 ≤ j) × (j ≤ P.N)
  unfolding count
  kinds_in w [] h j c = absurd (omega arith)
  kinds_in w (i ∷ o) h j c = elim (one_cases j (kind P i)) [
    | inl e ↦ (let q = h i (omega (arith, one_self i)) in rw e.0 (w i q.0 q.1))
    | inr e ↦ kinds_in w o (λ z d. h z (omega arith)) j (omega arith)
  ]

  -- an order is permitted exactly when 01 permits it, by its places
  pub permitted_free : Proper P → P.start ≤ P.N → (o : List ℕ) → IsOrder P o → Permitted P o ↔ PlacesPermitted P 1 o
  permitted_free w s o i = (
    (λ p. p.places),
    (λ p. record {
      places = p;
      successions = successions_free P.start (map (kind P) o) s (kinds_in w o (λ z c. omega (arith, from_in z 1 (T P) (omega (arith, order_counts P o i z)))));
    }),
  )

  feasible_free : (L : ℕ) (k : List ℕ) → IsPair P L k → Feasible P L k ↔ Feasible₁ P L k
  feasible_free L k p = (
    (λ f. record { here = f.here; sequence = f.sequence; uses = f.uses; later = f.later }),
    (λ f. record {
      here = f.here;
      sequence = f.sequence;
      uses = f.uses;
      later = f.later;
      successions = successions_free L f.sequence p.high (λ j c. let q = at_in k j (omega (arith, f.uses j)) in (q.0, omega (arith, p.left.long)));
    }),
  )

  -- ---- values, plan and count

  module _ (L : ℕ) (k : List ℕ) (l : L ≤ P.N) (s : IsLeft P k) where
    -- where a job of x is left, what is found after it may be replaced by its equal; where none is, nothing is found
    step_free : (x : ℕ) (a b : Option ℕ) → (0 < at k x → a ≡ b) → step P L k x a ≡ step₁ P L k x b
    step_free x a b e = elim (dichotomy (ltb 0 (at k x))) [
      | inl q ↦ rw q refl
      | inr q ↦ (let h = ltb→lt 0 (at k x) (rw q tt) in
          let i = at_in k x h in
          ap (only (ltb 0 (at k x))) (plus_gap_seconds (W P k) (P.gap L x) a (free L x l i.0 (omega (arith, s.long))) ∙ ap (plus (W P k * gap₁ P L x)) (e h)))
    ]

  to_go_free : (n L : ℕ) (k : List ℕ) → L ≤ P.N → IsLeft P k → to_go P n L k ≡ to_go₁ P n L k
  unfolding to_go to_go₁
  to_go_free zero L k l s = refl
  to_go_free (suc n) L k l s =
      ap (λ f. least f P.N) (fun_ext (λ x. step_free L k l s x _ _ (λ h.
      let p = next_pair P k x s h in
      ap (permit P x (complete k x)) (to_go_free n x (complete k x) p.high p.left))))

  value_free : (L : ℕ) (k : List ℕ) → IsPair P L k → value P L k ≡ value₁ P L k
  unfolding value value₁
  value_free L k p = ap (permit P L k) (to_go_free (sum k) L k p.high p.left)

  choice_free : (L : ℕ) (k : List ℕ) → L ≤ P.N → IsLeft P k → choice P L k ≡ choice₁ P L k
  unfolding choice choice₁
  choice_free L k l s = fun_ext (λ x. step_free L k l s x _ _ (λ h. value_free x (complete k x) (next_pair P k x s h)))

  walk_free : (n L : ℕ) (k : List ℕ) (c : ℕ) → L ≤ P.N → IsLeft P k → sum k ≡ n → cost_to_go P L k ≡ some c → walk P n L k ≡ walk₁ P n L k
  unfolding walk walk₁
  walk_free zero L k c l s z e = refl
  walk_free (suc n) L k c l s z e =
      let x : ℕ = arg_least (choice P L k) P.N in
      let m = smallest (choice P L k) P.N c (sym (cost_some_left P L k (omega arith)) ∙ e) in
      let (d, h, f, v, q) = choice_some P L k x c m.reached in
      rw (← (choice_free L k l s)) (ap (λ xs. x ∷ xs)
      (walk_free n x (complete k x) d m.high (complete_left P k x s h) (omega (arith, complete_sum k x h)) (value_some P x (complete k x) d v).2))

  count_free : feasible_states P ≡ sum (map (λ n. valued (value₁ P (entry_kind P n) (entry_left P n))) (from 0 (entries P)))
  unfolding feasible_states
  count_free = sum_same _ _ 0 (entries P) (λ n z h. ap valued (value_free (entry_kind P n) (entry_left P n) (pair_in P n (omega arith))))

  module _ (s : P.start ≤ P.N) where
    order_free : (r : Option ℕ) → plan_cost P ≡ r → r ≢ none → plan_order P ≡ by_hand_in P (all_left P) (walk₁ P (sum (all_left P)) P.start (all_left P))
    unfolding plan_cost plan_order plan_kinds
    order_free none e h = absurd (h refl)
    order_free (some c) e h = ap (by_hand_in P (all_left P)) (walk_free (sum (all_left P)) P.start (all_left P) c s (all_left_lem P) refl e)

    -- a queue without a never is one of 01
    pub of_scope : Proper P → OfScope P
    unfolding plan_cost
    of_scope w = record {
      orders = permitted_free w s;
      costs = cost_free P;
      states = feasible_free;
      values = value_free;
      plan_cost_is = to_go_free (sum (all_left P)) P.start (all_left P) s (all_left_lem P);
      plan_order_is = λ h. order_free (plan_cost P) refl h;
      kept = count_free;
    }
