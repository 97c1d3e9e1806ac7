-- 01's own definitions, in which every gap is seconds, and what a queue without a never has in common with them.
use Rattle.std.specs.Prelude.{cond, List, [], ◌∷◌, map, ◌↔◌, ◌≢◌, ◌≡◌, ℕ, zero, suc, ◌+◌, ◌*◌, T as Is, ltb, eqb}
use Rattle.std.proofs.Math.Option.{Option, none, some}
use Rattle.gaps.specs.Gaps.{seconds_of}
use Rattle.sequencing.specs.Lists.{at, from, sum, count}
use Rattle.sequencing.specs.Problem.{Problem, kind}
use Rattle.sequencing.specs.Orders.{IsOrder, PlacesPermitted, Permitted, makespan, weighted_completion, cost}
use Rattle.sequencing.specs.States.{complete, all_left, IsPair, job, place, by_hand_in}
use Rattle.sequencing.specs.Least.{only, plus, least, arg_least}
use Rattle.sequencing.specs.Recursion.{W, permit, value, plan_cost, plan_order}
use Rattle.sequencing.specs.Feasible.{Feasible}
use Rattle.sequencing.specs.Entries.{entries, entry_kind, entry_left}
use Rattle.sequencing.specs.Counts.{valued, feasible_states}

-- 01's finishes: each adds the gap from the kind before
unfoldable pub finishes₁ : (ℕ → ℕ → ℕ) → ℕ → ℕ → List ℕ → List ℕ
finishes₁ gap L t [] = []
finishes₁ gap L t (x ∷ xs) = (t + gap L x) ∷ finishes₁ gap x (t + gap L x) xs

module _ (P : Problem) where
  -- 01's gap(i, j)
  abbrev pub gap₁ : ℕ → ℕ → ℕ
  gap₁ i j = seconds_of (P.gap i j)

  -- 01's cost
  unfoldable pub cost₁ : List ℕ → ℕ
  cost₁ o =
      let xs : List ℕ = map (kind P) o in
      let fs : List ℕ = finishes₁ gap₁ P.start 0 xs in
      cond (eqb P.goal 1) (makespan 0 fs) (weighted_completion P.weight xs fs)

  -- 01's kept state
  pub record Feasible₁ (L : ℕ) (k : List ℕ) : Type 0 where
    pub here : Is (P.ok (job P L k) (place P k))
    pub sequence : List ℕ
    pub uses : (j : ℕ) → count j sequence ≡ at k j
    pub later : PlacesPermitted P (suc (place P k)) (by_hand_in P k sequence)

  -- 01's W × gap(L, x) + r, where a job of x is left
  abbrev pub step₁ : ℕ → List ℕ → ℕ → Option ℕ → Option ℕ
  step₁ L k x r = only (ltb 0 (at k x)) (plus (W P k * gap₁ L x) r)

  -- 01's rule from (L; k) on, with n jobs left
  unfoldable pub to_go₁ : ℕ → ℕ → List ℕ → Option ℕ
  to_go₁ zero L k = some 0
  to_go₁ (suc n) L k = least (λ x. step₁ L k x (permit P x (complete k x) (to_go₁ n x (complete k x)))) P.N

  -- 01's value of a state
  unfoldable pub value₁ : ℕ → List ℕ → Option ℕ
  value₁ L k = permit P L k (to_go₁ (sum k) L k)

  -- what x as the next kind comes to
  unfoldable pub choice₁ : ℕ → List ℕ → ℕ → Option ℕ
  choice₁ L k x = step₁ L k x (value₁ x (complete k x))

  -- the kinds taken from (L; k) on
  unfoldable pub walk₁ : ℕ → ℕ → List ℕ → List ℕ
  walk₁ zero L k = []
  walk₁ (suc n) L k =
      let x : ℕ = arg_least (choice₁ L k) P.N in
      x ∷ walk₁ n x (complete k x)

  -- a queue of 01: its permitted orders and their costs, its kept states, values, plan and kept count are by 01's own definitions
  pub record OfScope : Type 0 where
    pub orders : (o : List ℕ) → IsOrder P o → Permitted P o ↔ PlacesPermitted P 1 o
    pub costs : (o : List ℕ) → cost P o ≡ cost₁ o
    pub states : (L : ℕ) (k : List ℕ) → IsPair P L k → Feasible P L k ↔ Feasible₁ L k
    pub values : (L : ℕ) (k : List ℕ) → IsPair P L k → value P L k ≡ value₁ L k
    pub plan_cost_is : plan_cost P ≡ to_go₁ (sum (all_left P)) P.start (all_left P)
    pub plan_order_is : plan_cost P ≢ none → plan_order P ≡ by_hand_in P (all_left P) (walk₁ (sum (all_left P)) P.start (all_left P))
    pub kept : feasible_states P ≡ sum (map (λ n. valued (value₁ (entry_kind P n) (entry_left P n))) (from 0 (entries P)))
