-- 01's recursion as equations, without the number of jobs left that the definition counts down.
-- Assumes nothing.
use mathlib.Core.List.{List}
use mathlib.Core.Logic.{inl, inr}
use mathlib.Core.Option.{none, some}
use mathlib.Core.Path.{◌≡◌, refl, ap, ◌∙◌, fun_ext}
use mathlib.Mathlib.Data.Bool.Basic.{dichotomy}
use Prim.Native.Nat.{ℕ, suc, pred, ◌≤◌, ◌<◌}
use native.Mathlib.Omega.{arith}
use lib.Dec.{ltb, ltb→lt}
use Rattle.sequencing.specs.Lists.{at, sum}
use Rattle.sequencing.specs.Problem.{Problem}
use Rattle.sequencing.specs.States.{complete, K, all_left}
use Rattle.sequencing.specs.Least.{least}
use Rattle.sequencing.specs.Recursion.{permit, step, to_go, cost_to_go, value, choice, plan_cost}
use Rattle.sequencing.proofs.Vectors.{complete_sum}

module _ (P : Problem) where
  module _ (L : ℕ) (k : List ℕ) where
    -- 01's "also where k_L = K_L": no job of L is completed, so there is no state and no value
    pub value_no_job : K P L ≤ at k L → value P L k ≡ none
    unfolding value
    value_no_job h = elim (dichotomy (ltb (at k L) (K P L))) [ inr q ↦ absurd (omega (arith, ltb→lt (at k L) (K P L) (rw q tt))) | inl q ↦ rw q refl ]

    -- 01: with nothing left it is 0
    pub cost_none_left : sum k ≡ 0 → cost_to_go P L k ≡ some 0
    unfolding to_go
    cost_none_left e = rw e refl

    pub value_none_left : sum k ≡ 0 → value P L k ≡ permit P L k (some 0)
    unfolding value
    value_none_left e = ap (permit P L k) (cost_none_left e)

    -- the number of jobs left that the definition counts down is the sum of k
    same_choice : (n x : ℕ) → sum k ≡ suc n → step P L k x (permit P x (complete k x) (to_go P n x (complete k x))) ≡ choice P L k x
    unfolding choice value
    same_choice n x e = elim (dichotomy (ltb 0 (at k x))) [
      | inr q ↦ (let m : n ≡ sum (complete k x) = omega (arith, complete_sum k x (ltb→lt 0 (at k x) (rw q tt))) in
          ap (λ m. step P L k x (permit P x (complete k x) (to_go P m x (complete k x)))) m)
      | inl q ↦ rw q refl
    ]

    some_left : (n : ℕ) → sum k ≡ suc n → cost_to_go P L k ≡ least (choice P L k) P.N
    unfolding to_go
    some_left n e = ap (λ m. to_go P m L k) e ∙ ap (λ f. least f P.N) (fun_ext (λ x. same_choice n x e))

    -- 01: otherwise it is the least, over kinds x with a kept next state, of W × gap(L, x) + that state's value
    pub cost_some_left : 0 < sum k → cost_to_go P L k ≡ least (choice P L k) P.N
    cost_some_left h = some_left (pred (sum k)) (omega arith)

    pub value_some_left : 0 < sum k → value P L k ≡ permit P L k (least (choice P L k) P.N)
    unfolding value
    value_some_left h = ap (permit P L k) (cost_some_left h)

  -- 01: the plan's cost comes from the same rule with L = s and all K_j left
  pub plan_none_left : sum (all_left P) ≡ 0 → plan_cost P ≡ some 0
  unfolding plan_cost to_go
  plan_none_left e = rw e refl

  pub plan_some_left : 0 < sum (all_left P) → plan_cost P ≡ least (choice P P.start (all_left P)) P.N
  unfolding plan_cost
  plan_some_left h = cost_some_left P.start (all_left P) h
