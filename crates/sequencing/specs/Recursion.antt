-- The recursion of document 01 (Psaraftis, chapter 4), and the plan that it gives.
use Rattle.std.specs.Prelude.{cond, List, [], ◌∷◌, ℕ, zero, suc, ltb, eqb}
use Rattle.std.proofs.Math.Option.{Option, some}
use Rattle.sequencing.specs.Lists.{at, sum, weigh}
use Rattle.sequencing.specs.Problem.{Problem}
use Rattle.sequencing.specs.States.{complete, K, all_left, job, place, by_hand_in}
use Rattle.sequencing.specs.Least.{only, plus_gap, least, arg_least}

module _ (P : Problem) where
  -- 01's W: 1 under goal 1, the sum of k_j × w_j under goal 2, with the job to be completed still counted in k
  unfoldable pub W : List ℕ → ℕ
  W k = cond (eqb P.goal 1) 1 (weigh P.weight k)

  -- r, where (L; k) has a job (k_L < K_L) and that job is permitted at its place
  abbrev pub permit : ℕ → List ℕ → Option ℕ → Option ℕ
  permit L k r = only (ltb (at k L) (K P L)) (only (P.ok (job P L k) (place P k)) r)

  -- W × gap(L, x) + r, where a job of x is left and may follow L
  abbrev pub step : ℕ → List ℕ → ℕ → Option ℕ → Option ℕ
  step L k x r = only (ltb 0 (at k x)) (plus_gap (W k) (P.gap L x) r)

  -- 01's rule from (L; k) on, with n jobs left: the least over the next states, and none where they cannot fill the later places
  unfoldable pub to_go : ℕ → ℕ → List ℕ → Option ℕ
  to_go zero L k = some 0
  to_go (suc n) L k = least (λ x. step L k x (permit x (complete k x) (to_go n x (complete k x)))) P.N

  -- the least cost of what is left, whether or not L's own job is permitted
  abbrev pub cost_to_go : ℕ → List ℕ → Option ℕ
  cost_to_go L k = to_go (sum k) L k

  -- 01's value of a state, and none where the state is not feasible or is none (k_L = K_L)
  unfoldable pub value : ℕ → List ℕ → Option ℕ
  value L k = permit L k (cost_to_go L k)

  -- what x as the next kind comes to: W × gap(L, x) + the next state's value
  unfoldable pub choice : ℕ → List ℕ → ℕ → Option ℕ
  choice L k x = step L k x (value x (complete k x))

  -- the kinds taken from (L; k) on: each time the smallest that reaches the least
  unfoldable pub walk : ℕ → ℕ → List ℕ → List ℕ
  walk zero L k = []
  walk (suc n) L k =
      let x : ℕ = arg_least (choice L k) P.N in
      x ∷ walk n x (complete k x)

  -- the plan's cost: the same rule with L = s and all jobs left
  unfoldable pub plan_cost : Option ℕ
  plan_cost = cost_to_go P.start (all_left P)

  -- the plan's kinds, place by place
  unfoldable pub plan_kinds : List ℕ
  plan_kinds = walk (sum (all_left P)) P.start (all_left P)

  -- the plan's order: each kind by hand-in
  unfoldable pub plan_order : List ℕ
  plan_order = by_hand_in P (all_left P) plan_kinds
