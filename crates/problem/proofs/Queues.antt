-- What the theory says of 01's queues, for any valid record.
-- Assumes nothing.
use mathlib.Core.List.{List, map}
use mathlib.Core.Logic.{◌↔◌, ◌≢◌}
use mathlib.Core.Option.{none, some}
use mathlib.Core.Path.{◌≡◌, ◌∙◌}
use Prim.Native.Nat.{ℕ, ◌+◌, ◌-◌, ◌^◌, ◌≤◌, ◌<◌}
use native.Mathlib.Omega.{arith}
use Rattle.sequencing.specs.Lists.{at, from, upto, sum}
use Rattle.sequencing.specs.Problem.{Problem, kind}
use Rattle.sequencing.specs.Orders.{IsOrder, Permitted, cost}
use Rattle.sequencing.specs.States.{complete, K, all_left, IsLeft, IsPair, IsState}
use Rattle.sequencing.specs.Least.{least, arg_least}
use Rattle.sequencing.specs.Recursion.{permit, value, choice, plan_cost, plan_kinds, plan_order}
use Rattle.sequencing.specs.Feasible.{Feasible}
use Rattle.sequencing.specs.Ties.{Smallest, TieRule, Precedes}
use Rattle.sequencing.specs.Entries.{digits, stride, block, entries, number, entry_kind, entry_left}
use Rattle.sequencing.specs.Counts.{CountsFeasible, valued, feasible_states}
use Rattle.sequencing.proofs.AllJobs.{sum_all}
use Rattle.sequencing.proofs.Best.{plan_is, plan_least, no_plan}
use Rattle.sequencing.proofs.FeasibleStates.{feasible_is}
use Rattle.sequencing.proofs.Least.{smallest}
use Rattle.sequencing.proofs.Ties.{tie_rule, plan_first}
use Rattle.sequencing.proofs.Equations.{value_no_job, value_none_left, value_some_left, plan_none_left, plan_some_left}
use Rattle.sequencing.proofs.Entries.{number_in, kind_number, left_number, pair_in, number_pair, number_next}
use Rattle.sequencing.proofs.FeasibleCount.{feasible_count, count_unique}
use Rattle.sequencing.proofs.CountByLeft.{count_by_left}
use Rattle.queue.specs.declared.Queue.{Queue}
use Rattle.queue.specs.Record.{Valid}
use Rattle.problem.specs.OfQueue.{problem}
use Rattle.problem.specs.Bounds.{value_limit}
use Rattle.problem.proofs.Rule.{jobs_is, exchange, proper}
use Rattle.problem.proofs.Bounds.{value_limit_lem, plan_limit, limit_fits}

-- what is at most 1000 × 65535 × 1830 fits six groups of seven bits and is not 2^64 − 1
pub fits : (c : ℕ) → c ≤ value_limit → (c ≤ value_limit) × (c < 2 ^ 42) × (c < 2 ^ 64 - 1)
fits c h = (h, omega (arith, limit_fits), omega (arith, limit_fits))

module _ (q : Queue) (valid : Valid q) where
  abbrev P : Problem
  P = problem q

  -- ---- the best order

  -- 1. the plan is an order, is permitted, and costs by its own finishes what the recursion says
  pub planned : (c : ℕ) → plan_cost P ≡ some c → IsOrder P (plan_order P) × Permitted P (plan_order P) × (cost P (plan_order P) ≡ c)
  planned = plan_is P (proper q valid)

  -- 2. every permitted order costs at least as much
  pub none_cheaper : (c : ℕ) → plan_cost P ≡ some c → (o : List ℕ) → IsOrder P o → Permitted P o → c ≤ cost P o
  none_cheaper = plan_least P (proper q valid) (exchange q)

  -- 3. there is no plan exactly when no order is permitted
  pub none_permitted : (plan_cost P ≡ none) ↔ ((o : List ℕ) → IsOrder P o → Permitted P o → ⊥)
  none_permitted = no_plan P (proper q valid) (exchange q)

  -- 4. a state has a value exactly when it is feasible
  pub feasible : (L : ℕ) (k : List ℕ) → IsState P L k → (value P L k ≢ none) ↔ Feasible P L k
  feasible = feasible_is P

  -- 5. the least over the next kinds is reached, nothing is below it, and no smaller kind than the one taken reaches it
  pub smallest_taken : (L : ℕ) (k : List ℕ) (c : ℕ) → IsLeft P k → least (choice P L k) P.N ≡ some c → Smallest (choice P L k) P.N (arg_least (choice P L k) P.N) c
  smallest_taken L k c s = smallest (choice P L k) P.N c

  -- along the whole plan each kind taken is the smallest that reaches the least
  pub ties : (c : ℕ) → plan_cost P ≡ some c → TieRule P P.start (all_left P) (plan_kinds P)
  ties = tie_rule P

  -- and so no permitted order of the same cost comes before the plan by kinds, place by place
  pub first_by_kinds : (c : ℕ) → plan_cost P ≡ some c → (o : List ℕ) → IsOrder P o → Permitted P o → cost P o ≡ c → Precedes (plan_kinds P) (map (kind P) o)
  first_by_kinds = plan_first P (proper q valid) (exchange q)

  -- ---- the recursion

  -- 6. a state's value where nothing is left
  pub value_nothing_left : (L : ℕ) (k : List ℕ) → IsPair P L k → sum k ≡ 0 → value P L k ≡ permit P L k (some 0)
  value_nothing_left L k p = value_none_left P L k

  -- and where something is
  pub value_something_left : (L : ℕ) (k : List ℕ) → IsPair P L k → 0 < sum k → value P L k ≡ permit P L k (least (choice P L k) P.N)
  value_something_left L k p = value_some_left P L k

  -- where k_L = K_L there is no state, and no value
  pub no_value : (L : ℕ) (k : List ℕ) → IsPair P L k → K P L ≤ at k L → value P L k ≡ none
  no_value L k p = value_no_job P L k

  jobs_left : sum (all_left P) ≡ q.jobs
  jobs_left = sum_all P (proper q valid) ∙ jobs_is q

  -- the plan's cost by the same rule, from s with all jobs left
  pub plan_no_jobs : q.jobs ≡ 0 → plan_cost P ≡ some 0
  plan_no_jobs h = plan_none_left P (omega (arith, jobs_left))

  pub plan_some_jobs : 0 < q.jobs → plan_cost P ≡ least (choice P P.start (all_left P)) P.N
  plan_some_jobs h = plan_some_left P (omega (arith, jobs_left))

  -- ---- the table

  -- 7. each pair has a number below N × P, which gives the pair back
  pub numbered : (L : ℕ) (k : List ℕ) → IsPair P L k → (number P L k < entries P) × (entry_kind P (number P L k) ≡ L) × (entry_left P (number P L k) ≡ k)
  numbered L k p = (number_in P L k p, kind_number P L k p, left_number P L k p)

  -- and each number below N × P is that of its pair
  pub paired : (n : ℕ) → n < entries P → IsPair P (entry_kind P n) (entry_left P n) × (number P (entry_kind P n) (entry_left P n) ≡ n)
  paired n h = (pair_in P n h, number_pair P n)

  -- the next state by way of x stands x's stride lower, in x's block
  pub next_number : (L : ℕ) (k : List ℕ) (x : ℕ) → IsPair P L k → 0 < at k x → number P x (complete k x) + stride (all_left P) x ≡ number P x k
  next_number L k x p = number_next P k x p.left

  -- 8. how large a value is
  pub value_fits : (L : ℕ) (k : List ℕ) (c : ℕ) → IsPair P L k → value P L k ≡ some c → (c ≤ value_limit) × (c < 2 ^ 42) × (c < 2 ^ 64 - 1)
  value_fits L k c p e = fits c (value_limit_lem q valid L k c p e)

  -- and the plan's cost
  pub cost_fits : (c : ℕ) → plan_cost P ≡ some c → (c ≤ value_limit) × (c < 2 ^ 42) × (c < 2 ^ 64 - 1)
  cost_fits c e = fits c (plan_limit q valid c e)

  -- ---- the count

  -- 9. the number of entries that hold a value is 01's kept count
  pub counted : CountsFeasible P (feasible_states P)
  counted = feasible_count P

  -- and no other number is
  pub counted_once : (n : ℕ) → CountsFeasible P n → n ≡ feasible_states P
  counted_once n c = count_unique P n (feasible_states P) c (feasible_count P)

  -- taken with k outermost and L within, the total is the same
  pub counted_by_left : sum (map (λ i. sum (map (λ L. valued (value P L (digits (all_left P) i))) (upto P.N))) (from 0 (block P))) ≡ feasible_states P
  counted_by_left = count_by_left P
