-- Bounds on gaps and weights, and the sum 1 + 2 + .. + n that bounds values under them.
use Rattle.std.specs.Prelude.{ℕ, zero, suc, ◌+◌, ◌≤◌}
use Rattle.gaps.specs.Gaps.{seconds_of}
use Rattle.sequencing.specs.Problem.{Problem}

-- no gap of more seconds than g and no weight above w, for the kinds of 1 to N
pub record Limits (P : Problem) (g w : ℕ) : Type 0 where
  pub start : P.start ≤ P.N
  pub gaps : (i j : ℕ) → i ≤ P.N → 1 ≤ j → j ≤ P.N → seconds_of (P.gap i j) ≤ g
  pub weights : (j : ℕ) → 1 ≤ j → j ≤ P.N → P.weight j ≤ w
  pub positive : 1 ≤ w

-- 1 + 2 + .. + n
unfoldable pub triangle : ℕ → ℕ
triangle zero = 0
triangle (suc n) = suc n + triangle n
