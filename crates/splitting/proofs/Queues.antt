-- What the theory says of 01's queues split over two cutters, for any valid record.
-- Assumes nothing.
use mathlib.Core.List.{List}
use mathlib.Core.Option.{some}
use mathlib.Core.Path.{◌≡◌}
use Prim.Native.Nat.{ℕ, ◌-◌, ◌^◌, ◌≤◌, ◌<◌}
use Rattle.queue.specs.declared.Queue.{Queue}
use Rattle.queue.specs.Record.{Valid}
use Rattle.sequencing.specs.Problem.{T}
use Rattle.problem.specs.OfQueue.{problem}
use Rattle.problem.specs.Bounds.{value_limit}
use Rattle.problem.proofs.Rule.{proper, limits, few_jobs}
use Rattle.problem.proofs.Bounds.{limit_of}
use Rattle.problem.proofs.Queues.{fits}
use Rattle.splitting.specs.Taken.{counts_cost, taken_cost, taken_counts}
use Rattle.splitting.proofs.Best.{taken}
use Rattle.splitting.proofs.Limits.{counts_le}

module _ (q : Queue) (v : Valid q) (s : ℕ) (h : s ≤ q.kinds) where
  -- how large the cost of a split is
  pub counts_fit : (n : List ℕ) (c : ℕ) → counts_cost (problem q) s n ≡ some c → (c ≤ value_limit) × (c < 2 ^ 42) × (c < 2 ^ 64 - 1)
  counts_fit n c e = fits c (limit_of (T (problem q)) c (few_jobs q v) (counts_le (problem q) (proper q v) 65535 1000 (limits q v) s h n c e))

  pub taken_fits : (c : ℕ) → taken_cost (problem q) s ≡ some c → (c ≤ value_limit) × (c < 2 ^ 42) × (c < 2 ^ 64 - 1)
  taken_fits c e = counts_fit (taken_counts (problem q) s) c (taken (problem q) (proper q v) s c e).reached
