-- The tie rule holds along the whole plan, and makes it the first by kinds among the orders of least cost.
-- Assumes nothing.
use mathlib.Core.List.{List, [], ◌∷◌, map}
use mathlib.Core.Logic.{inl, inr}
use mathlib.Core.Option.{some}
use mathlib.Core.Path.{◌≡◌, refl, sym, ◌∙◌}
use Prim.Native.Nat.{ℕ, zero, suc, ◌<◌}
use native.Mathlib.Omega.{arith}
use Rattle.sequencing.specs.Lists.{sum}
use Rattle.sequencing.specs.Problem.{Problem, kind, Proper, Exchange}
use Rattle.sequencing.specs.Orders.{IsOrder, SuccessionsPermitted, Permitted, cost}
use Rattle.sequencing.specs.States.{complete, all_left, IsLeft}
use Rattle.sequencing.specs.Least.{arg_least}
use Rattle.sequencing.specs.Recursion.{W, cost_to_go, choice, walk, plan_cost, plan_kinds}
use Rattle.sequencing.specs.Ties.{TieRule, Precedes}
use Rattle.sequencing.proofs.Counting.{one_cases}
use Rattle.sequencing.proofs.Vectors.{complete_sum, at_in}
use Rattle.sequencing.proofs.AllJobs.{all_left_lem}
use Rattle.sequencing.proofs.JobsLeft.{complete_left}
use Rattle.sequencing.proofs.Fills.{Fills}
use Rattle.sequencing.proofs.Costs.{by_steps, cost_is}
use Rattle.sequencing.proofs.Options.{upto_some}
use Rattle.sequencing.proofs.Least.{smallest}
use Rattle.sequencing.proofs.Equations.{cost_some_left}
use Rattle.sequencing.proofs.Recursion.{value_some, choice_some, choice_upto, cost_upto_lem}
use Rattle.sequencing.proofs.Best.{order_fills}

module _ (P : Problem) where
  walk_ties : (n L : ℕ) (k : List ℕ) (c : ℕ) → sum k ≡ n → cost_to_go P L k ≡ some c → TieRule P L k (walk P n L k)
  unfolding walk TieRule
  walk_ties zero L k c s e = tt
  walk_ties (suc n) L k c s e =
      let x = arg_least (choice P L k) P.N in
      let m = smallest (choice P L k) P.N c (sym (cost_some_left P L k (omega arith)) ∙ e) in
      let (d, h, f, v, q) = choice_some P L k x c m.reached in
      (c, e, m, walk_ties n x (complete k x) d (omega (arith, complete_sum k x h)) (value_some P x (complete k x) d v).2)

  -- 01's tie rule: at every place of the plan the kind taken reaches the least of its state, and no smaller kind does
  pub tie_rule : (c : ℕ) → plan_cost P ≡ some c → TieRule P P.start (all_left P) (plan_kinds P)
  unfolding plan_cost plan_kinds
  tie_rule c e = walk_ties (sum (all_left P)) P.start (all_left P) c refl e

  walk_first : (n L : ℕ) (k : List ℕ) (c : ℕ) (ys : List ℕ) → sum k ≡ n → cost_to_go P L k ≡ some c → IsLeft P k → Fills P k ys → SuccessionsPermitted P L ys → by_steps P (W P) L k ys ≡ c → Precedes (walk P n L k) ys
  unfolding walk Precedes Fills SuccessionsPermitted by_steps
  walk_first zero L k c [] s e l f n b = tt
  walk_first zero L k c (y ∷ ys) s e l f n b = absurd (omega (arith, complete_sum k y f.0))
  walk_first (suc n) L k c [] s e l f g b = absurd (omega arith)
  walk_first (suc n) L k c (y ∷ ys) s e l f t b =
      let x : ℕ = arg_least (choice P L k) P.N in
      let m = smallest (choice P L k) P.N c (sym (cost_some_left P L k (omega arith)) ∙ e) in
      let i = at_in k y f.0 in
      let a = cost_upto_lem P (sum (complete k y)) y (complete k y) ys refl (complete_left P k y l f.0) f.2 t.1 in
      let (d, g, u) = upto_some _ (choice P L k y) (choice_upto P L k y (by_steps P (W P) y (complete k y) ys) l f.0 t.0 f.1 a) in
      let same : d ≡ c = omega (arith, m.bound y d i.0 (omega (arith, l.long)) g) in
      let g' : choice P L k y ≡ some c = rw (← same) g in
      let above : ¬ (y < x) = λ v. m.first y i.0 v g' in
      let (d', h, w, v, q) = choice_some P L k y c g' in
      let later = walk_first n y (complete k y) d' ys (omega (arith, complete_sum k y h)) (value_some P y (complete k y) d' v).2 (complete_left P k y l h) f.2 t.1 (omega arith) in
      elim (one_cases x y) [ inl t ↦ inr (t.0, rw t.0 later) | inr t ↦ inl (omega arith) ]

  -- so the plan is the first by kinds, place by place, of all permitted orders of least cost, not only of those that keep hand-in within kinds
  pub plan_first : Proper P → Exchange P → (c : ℕ) → plan_cost P ≡ some c → (o : List ℕ) → IsOrder P o → Permitted P o → cost P o ≡ c → Precedes (plan_kinds P) (map (kind P) o)
  unfolding plan_cost plan_kinds
  plan_first w ex c e o i p q =
      let f = order_fills P w ex o i p in
      walk_first (sum (all_left P)) P.start (all_left P) c (map (kind P) o) refl e (all_left_lem P) f p.successions (sym (cost_is P o (all_left P) f) ∙ q)
