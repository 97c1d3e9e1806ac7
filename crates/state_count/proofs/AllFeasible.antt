-- Where each job is permitted at each place and nothing is forbidden, every state is feasible.
-- Assumes nothing.
use mathlib.Core.List.{List, [], ◌∷◌}
use mathlib.Core.Logic.{inl, inr}
use mathlib.Core.Path.{◌≡◌, refl}
use Prim.Native.Nat.{ℕ, zero, suc, ◌+◌, ◌*◌, ◌≤◌, ◌<◌}
use native.Mathlib.Nat.{eq-zero-or-pos}
use native.Mathlib.Omega.{arith}
use Rattle.gaps.specs.Gaps.{seconds_of}
use Rattle.sequencing.specs.Lists.{at, sum}
use Rattle.sequencing.specs.Problem.{Problem, AllPermitted, NoneForbidden}
use Rattle.sequencing.specs.States.{complete, IsLeft, IsState}
use Rattle.sequencing.specs.Recursion.{W, cost_to_go, choice}
use Rattle.sequencing.specs.Feasible.{Feasible}
use Rattle.sequencing.proofs.Vectors.{complete_sum}
use Rattle.sequencing.proofs.JobsLeft.{complete_below, next_pair}
use Rattle.sequencing.proofs.Options.{Upto}
use Rattle.sequencing.proofs.Least.{least_upto}
use Rattle.sequencing.proofs.Equations.{cost_none_left, cost_some_left}
use Rattle.sequencing.proofs.Recursion.{value_upto, choice_upto}
use Rattle.sequencing.proofs.FeasibleStates.{feasible_is, state_permitted}

-- a kind with a job left
kind_left : (k : List ℕ) → 0 < sum k → (x : ℕ) × (0 < at k x)
unfolding sum
kind_left [] h = absurd (omega arith)
kind_left (c ∷ cs) h = elim (eq-zero-or-pos c) [
  | inr l ↦ (1, l)
  | inl e ↦ behind (kind_left cs (omega arith))
]
  where
    behind : (x : ℕ) × (0 < at cs x) → (x : ℕ) × (0 < at (c ∷ cs) x)
    behind (zero, l) = absurd (omega arith)
    behind (suc x, l) = (suc (suc x), l)

module _ (P : Problem) (permitted : AllPermitted P) (free : NoneForbidden P) where
  -- from any row the jobs left can be completed
  cost_found : (n L : ℕ) (k : List ℕ) → sum k ≡ n → L ≤ P.N → IsLeft P k → (c : ℕ) × Upto c (cost_to_go P L k)
  cost_found zero L k e l s = (0, rw (cost_none_left P L k e) (omega arith))
  cost_found (suc n) L k e l s =
      let (x, h) = kind_left k (omega arith) in
      let p = next_pair P k x s h in
      let (c, u) = cost_found n x (complete k x) (omega (arith, complete_sum k x h)) p.high p.left in
      let here = state_permitted P x (complete k x) (record { pair = p; completed = complete_below P k x s h }) permitted in
      let d = W P k * seconds_of (P.gap L x) + c in
      (d, rw (cost_some_left P L k (omega arith)) (least_upto (choice P L k) P.N x d p.low p.high (choice_upto P L k x c s h (free L x l p.low p.high) here u)))

  pub all_feasible : (L : ℕ) (k : List ℕ) → IsState P L k → Feasible P L k
  all_feasible L k s =
      let (c, u) = cost_found (sum k) L k refl s.pair.high s.pair.left in
      let v = value_upto P L k c s.completed (state_permitted P L k s permitted) u in
      (feasible_is P L k s).0 (λ e. rw e at v)
