-- Where each job is permitted at each place, the recursion sees only how many jobs of each kind are left: problems that are alike but for their jobs
-- have one value and one walk.
-- Assumes nothing.
use mathlib.Core.Bool.{Bool, true, false}
use mathlib.Core.List.{List, ◌∷◌}
use mathlib.Core.Logic.{inl, inr}
use mathlib.Core.Option.{Option, some}
use mathlib.Core.Path.{◌≡◌, refl, sym, ap, ap₂, ◌∙◌, fun_ext}
use mathlib.Mathlib.Data.Bool.Basic.{dichotomy}
use Prim.Native.Nat.{ℕ, zero, suc, ◌<◌}
use native.Mathlib.Omega.{arith}
use lib.Dec.{T as Is, ltb, lt→ltb, ltb→lt}
use Rattle.sequencing.specs.Lists.{at, sum}
use Rattle.sequencing.specs.Problem.{Problem, AllPermitted}
use Rattle.sequencing.specs.States.{complete, K, all_left, IsLeft, job, place}
use Rattle.sequencing.specs.Least.{only, plus_gap, least, arg_least}
use Rattle.sequencing.specs.Recursion.{W, cost_to_go, value, choice, walk, plan_cost, plan_kinds}
use Rattle.sequencing.proofs.Vectors.{complete_sum}
use Rattle.sequencing.proofs.AllJobs.{all_left_lem}
use Rattle.sequencing.proofs.JobsLeft.{complete_left, complete_below, next_pair}
use Rattle.sequencing.proofs.FeasibleStates.{state_permitted}
use Rattle.sequencing.proofs.Least.{smallest}
use Rattle.sequencing.proofs.Equations.{cost_none_left, cost_some_left}
use Rattle.sequencing.proofs.Recursion.{value_some, choice_some}

only_is : (b : Bool) (r : Option ℕ) → Is b → only b r ≡ r
only_is true r h = refl
only_is false r h = absurd h

module _ (P : Problem) (permitted : AllPermitted P) (k : List ℕ) (x : ℕ) (s : IsLeft P k) (h : 0 < at k x) where
  next_permitted : Is (P.ok (job P x (complete k x)) (place P (complete k x)))
  next_permitted = state_permitted P x (complete k x) (record { pair = next_pair P k x s h; completed = complete_below P k x s h }) permitted

  -- each next state has a value where the jobs left have a cost
  value_is : value P x (complete k x) ≡ cost_to_go P x (complete k x)
  unfolding value
  value_is =
      only_is (ltb (at (complete k x) x) (K P x)) _ (lt→ltb (at (complete k x) x) (K P x) (complete_below P k x s h))
      ∙ only_is (P.ok (job P x (complete k x)) (place P (complete k x))) _ next_permitted

-- two problems with the same kinds, gaps, goal and weights, whatever their jobs and starts, and everything permitted
pub record Alike (P Q : Problem) : Type 0 where
  pub N : P.N ≡ Q.N
  pub gap : P.gap ≡ Q.gap
  pub goal : P.goal ≡ Q.goal
  pub weight : P.weight ≡ Q.weight
  pub permitted_P : AllPermitted P
  pub permitted_Q : AllPermitted Q

module _ (P Q : Problem) (a : Alike P Q) where
  weight_same : (k : List ℕ) → W P k ≡ W Q k
  unfolding W
  weight_same k = rw (a.goal, a.weight) refl

  choice_same : (L : ℕ) (k : List ℕ) → IsLeft P k → IsLeft Q k
      → ((x : ℕ) → 0 < at k x → cost_to_go P x (complete k x) ≡ cost_to_go Q x (complete k x)) → choice P L k ≡ choice Q L k
  unfolding choice
  choice_same L k p q same = fun_ext (λ x. elim (dichotomy (ltb 0 (at k x))) [
    | inr e ↦ (let h : 0 < at k x = ltb→lt 0 (at k x) (rw e tt) in
        let v = value_is P a.permitted_P k x p h ∙ same x h ∙ sym (value_is Q a.permitted_Q k x q h) in
        ap₂ (λ (f : Option ℕ → Option ℕ) r. only (ltb 0 (at k x)) (f r)) (ap₂ plus_gap (weight_same k) (ap (λ g. g L x) a.gap)) v)
    | inl e ↦ rw e refl
  ])

  -- one value
  pub value_bridge : (n L : ℕ) (k : List ℕ) → sum k ≡ n → IsLeft P k → IsLeft Q k → cost_to_go P L k ≡ cost_to_go Q L k
  value_bridge zero L k e p q = cost_none_left P L k e ∙ sym (cost_none_left Q L k e)
  value_bridge (suc n) L k e p q =
      let same = choice_same L k p q
      (λ x h. value_bridge n x (complete k x) (omega (arith, complete_sum k x h)) (complete_left P k x p h) (complete_left Q k x q h)) in
      cost_some_left P L k (omega arith) ∙ ap₂ least same a.N ∙ sym (cost_some_left Q L k (omega arith))

  -- and one walk
  pub walk_bridge : (n L : ℕ) (k : List ℕ) (c : ℕ) → sum k ≡ n → IsLeft P k → IsLeft Q k → cost_to_go P L k ≡ some c → walk P n L k ≡ walk Q n L k
  unfolding walk
  walk_bridge zero L k c e p q t = refl
  walk_bridge (suc n) L k c e p q t =
      let x : ℕ = arg_least (choice P L k) P.N in
      let m = smallest (choice P L k) P.N c (sym (cost_some_left P L k (omega arith)) ∙ t) in
      let (d, h, f, v, w) = choice_some P L k x c m.reached in
      let same = choice_same L k p q
      (λ y g. value_bridge (sum (complete k y)) y (complete k y) refl (complete_left P k y p g) (complete_left Q k y q g)) in
      let later = walk_bridge n x (complete k x) d (omega (arith, complete_sum k x h)) (complete_left P k x p h) (complete_left Q k x q h)
      (value_some P x (complete k x) d v).2 in
      ap (λ t. x ∷ t) later ∙ ap (λ y. y ∷ walk Q n y (complete k y)) (ap₂ arg_least same a.N)

  module _ (l : IsLeft P (all_left Q)) where
    -- the plan's cost is the value that the other problem has from its start, with its jobs left
    pub plan_bridge : plan_cost Q ≡ cost_to_go P Q.start (all_left Q)
    unfolding plan_cost
    plan_bridge = sym (value_bridge (sum (all_left Q)) Q.start (all_left Q) refl l (all_left_lem Q))

    -- and so for its kinds
    pub kinds_bridge : (c : ℕ) → plan_cost Q ≡ some c → plan_kinds Q ≡ walk P (sum (all_left Q)) Q.start (all_left Q)
    unfolding plan_kinds
    kinds_bridge c e = sym (walk_bridge (sum (all_left Q)) Q.start (all_left Q) c refl l (all_left_lem Q) (sym plan_bridge ∙ e))
