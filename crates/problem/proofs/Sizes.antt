-- How many entries a queue has at most.
-- Assumes nothing.
use Prim.Native.Nat.{ℕ, zero, suc, ◌^◌, ◌≤◌, ◌<◌}
use mathlib.Core.List.{List, [], ◌∷◌}
use native.Mathlib.Nat.{le_trans, pow-suc, mul-le-mul, pow-le-pow_right}
use native.Mathlib.Omega.{arith}
use lib.ListN.{length}
use Rattle.queue.specs.declared.Queue.{Queue}
use Rattle.queue.specs.Record.{Valid}
use Rattle.sequencing.specs.Lists.{at}
use Rattle.sequencing.specs.States.{all_left}
use Rattle.sequencing.specs.Entries.{size, block, entries}
use Rattle.sequencing.proofs.AllJobs.{length_all, sum_all}
use Rattle.sequencing.proofs.Vectors.{at_sum}
use Rattle.problem.specs.OfQueue.{problem}
use Rattle.problem.proofs.Rule.{proper, few_jobs}

size_most : (cs : List ℕ) → ((j : ℕ) → at cs j ≤ 60) → size cs ≤ 61 ^ length cs
unfolding size
size_most [] h = omega arith
size_most (c ∷ cs) h = rw (pow-suc 61 (length cs)) (omega (arith, mul-le-mul {n₁ = suc c} {n₂ = 61} (omega (arith, h 1)) (size_most cs (later h))))
  where
    later : ((j : ℕ) → at (c ∷ cs) j ≤ 60) → (j : ℕ) → at cs j ≤ 60
    later g zero = omega arith
    later g (suc j) = g (suc (suc j))

module _ (q : Queue) (v : Valid q) where
  block_most : block (problem q) ≤ 61 ^ 5
  block_most =
      let P = problem q in
      let few : (j : ℕ) → at (all_left P) j ≤ 60 = λ j. omega (arith, at_sum (all_left P) j, sum_all P (proper q v), few_jobs q v) in
      le_trans (size_most (all_left P) few) (pow-le-pow_right {n = 61} (omega arith) {i = length (all_left P)} {j = 5} (omega (arith, length_all P, v.kinds)))

  -- a count of entries fits six groups of seven bits
  pub entries_small : entries (problem q) < 2 ^ 42
  entries_small = omega (arith, mul-le-mul {n₁ = q.kinds} {m₁ = block (problem q)} {n₂ = 5} {m₂ = 61 ^ 5} v.kinds.1 block_most)
