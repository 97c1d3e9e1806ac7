-- How large the values and costs of a valid queue can be.
-- Assumes nothing.
use mathlib.Core.List.{List}
use mathlib.Core.Option.{some}
use mathlib.Core.Path.{◌≡◌}
use Prim.Native.Nat.{ℕ, ◌-◌, ◌*◌, ◌^◌, ◌≤◌, ◌<◌}
use native.Mathlib.Nat.{le_trans, mul-le-mul_right}
use native.Mathlib.Omega.{arith}
use Rattle.sequencing.specs.Lists.{sum}
use Rattle.sequencing.specs.States.{all_left, IsLeft, IsPair}
use Rattle.sequencing.specs.Recursion.{value, choice, plan_cost}
use Rattle.sequencing.specs.Limits.{triangle}
use Rattle.sequencing.proofs.AllJobs.{left_small, all_left_lem}
use Rattle.sequencing.proofs.Bounds.{triangle_mono, value_le, choice_le, plan_le}
use Rattle.queue.specs.declared.Queue.{Queue}
use Rattle.queue.specs.Record.{Valid}
use Rattle.problem.specs.OfQueue.{problem}
use Rattle.problem.specs.Bounds.{value_limit}
use Rattle.problem.proofs.Rule.{limits, few_jobs}

-- with at most sixty jobs, a bound by jobs is below the number
pub limit_of : (n c : ℕ) → n ≤ 60 → c ≤ triangle n * (1000 * 65535) → c ≤ value_limit
unfolding triangle
limit_of n c few h = le_trans h (mul-le-mul_right {m = triangle n} {n = 1830} (1000 * 65535) (triangle_mono n 60 few))

module _ (q : Queue) (v : Valid q) where
  within_limit : (k : List ℕ) → IsLeft (problem q) k → (c : ℕ) → c ≤ triangle (sum k) * (1000 * 65535) → c ≤ value_limit
  within_limit k s c = limit_of (sum k) c (omega (arith, left_small (problem q) k s, few_jobs q v))

  -- no value is above the number
  pub value_limit_lem : (L : ℕ) (k : List ℕ) (c : ℕ) → IsPair (problem q) L k → value (problem q) L k ≡ some c → c ≤ value_limit
  value_limit_lem L k c p e = within_limit k p.left c (value_le (problem q) 65535 1000 (limits q v) L k c p e)

  -- nor is what any kind comes to as the next one
  pub choice_limit : (L : ℕ) (k : List ℕ) (x c : ℕ) → L ≤ q.kinds → IsLeft (problem q) k → choice (problem q) L k x ≡ some c → c ≤ value_limit
  choice_limit L k x c l s e = within_limit k s c (choice_le (problem q) 65535 1000 (limits q v) L k x c l s e)

  -- nor is the plan's cost
  pub plan_limit : (c : ℕ) → plan_cost (problem q) ≡ some c → c ≤ value_limit
  plan_limit c e = within_limit (all_left (problem q)) (all_left_lem (problem q)) c (plan_le (problem q) 65535 1000 (limits q v) c e)

-- the number fits six groups of seven bits, and is below 2^64 − 1
pub limit_fits : (value_limit < 2 ^ 42) × (value_limit < 2 ^ 64 - 1)
limit_fits = omega arith
