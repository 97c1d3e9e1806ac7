-- A loop over all k in the table's order: the counts of each index, with their sums.
-- Assumes nothing.
use Prim.Native.Nat.{ℕ, zero, suc, ◌-◌, ◌^◌, ◌≤◌, ◌<◌}
use mathlib.Core.List.{List, map}
use mathlib.Core.Path.{◌≡◌, refl, sym, ap}
use native.Mathlib.Nat.{mul-le-mul}
use native.Mathlib.Omega.{arith}
use lib.ListN.{length, get_or, take, replicate}
use Rattle.queue.specs.declared.Queue.{Queue}
use Rattle.queue.specs.Record.{Valid}
use Rattle.sequencing.specs.Lists.{sum, upto}
use Rattle.sequencing.specs.States.{all_left}
use Rattle.sequencing.specs.Entries.{digits, block, entries}
use Rattle.sequencing.proofs.AllJobs.{left_small}
use Rattle.sequencing.proofs.Bounds.{weigh_le}
use Rattle.sequencing.proofs.Entries.{left_digits}
use Rattle.sequencing.proofs.Vectors.{weigh_none}
use Rattle.problem.specs.OfQueue.{problem}
use Rattle.problem.proofs.Rule.{jobs_is, few_jobs}
use Rattle.problem.proofs.Sizes.{entries_small}
use Rattle.jobs_left.specs.declared.JobsLeft.{JobsLeft}
use Rattle.jobs_left.specs.declared.Kind.{Kind}
use Rattle.jobs_left.specs.Kinds.{weights_of}
use Rattle.jobs_left.specs.Steps.{Summed, LeftAt, LeftOf}
use Rattle.jobs_left.proofs.Stepping.{Stepped, next_digits}
use Rattle.jobs_left.proofs.LeftAt.{take_zeros, left_none, summed_left, left_stepped}
use Rattle.layout.specs.declared.Layout.{Layout}
use Rattle.layout.specs.Prepared.{Prepared, kind_of}
use Rattle.layout.proofs.Prepared.{known, counts_known, kinds_long, kinds_room}

-- what is known of the kinds of a queue
abbrev pub kinds_of : Queue → List Kind
kinds_of q = map (kind_of q) (upto q.kinds)

-- the counts where the loop stands; past the last index nothing is said of them but their sums
pub record Counting (q : Queue) (k : JobsLeft) : Type 0 where
  pub within : k.index ≤ block (problem q)
  pub left_at : k.index < block (problem q) → LeftAt (problem q) k.left k.index
  pub summed : Summed (weights_of (kinds_of q)) (take (length (kinds_of q)) k.left) k.jobs k.weight

sum_zeros : (n : ℕ) → sum (replicate n 0) ≡ 0
unfolding sum
sum_zeros zero = refl
sum_zeros (suc n) = omega (arith, sum_zeros n)

sums_none : (weights : List ℕ) (n : ℕ) → n ≤ 5 → Summed weights (take n (replicate 5 0)) 0 0
sums_none weights n h = rw (take_zeros n 5 h)
    record { jobs_are = sym (sum_zeros n); weight_is = sym (weigh_none (λ j. get_or weights (j - 1) 0) (replicate n 0) (sum_zeros n)) }

module _ {q : Queue} (v : Valid q) where
  pub counting_none : Counting q (record { left = replicate 5 0; index = 0; jobs = 0; weight = 0 })
  counting_none = record { within = omega arith; left_at = λ h. left_none v.kinds.1; summed = sums_none (weights_of (kinds_of q)) (length (kinds_of q)) (kinds_room q v) }

  module _ {l : Layout} (p : Prepared q l) {k : JobsLeft} (w : Counting q k) (h : k.index < l.size.block) where
    pub left_here : LeftOf (problem q) k
    left_here = summed_left (known q) k (w.left_at (omega (arith, p.block_is))) w.summed

    -- what stepping on may rely on
    pub step_small : (k.jobs < 2 ^ 31) × ((k.weight < 2 ^ 31) × (k.index < 2 ^ 63))
    step_small =
        let n = digits (all_left (problem q)) k.index in
        let few : sum n ≤ 60 = omega (arith, left_small (problem q) n (left_digits (problem q) k.index), few_jobs q v) in
        let most = weigh_le (problem q).weight 1000 n (λ j a u. v.weights j a (omega (arith, (left_digits (problem q) k.index).long))) in
        let more : block (problem q) ≤ entries (problem q) = omega (arith, mul-le-mul {n₁ = 1} {m₁ = block (problem q)} {n₂ = q.kinds} {m₂ = block (problem q)} v.kinds.0 (omega arith)) in
        (omega (arith, left_here.jobs_are), (omega (arith, left_here.weight_is, most), omega (arith, p.block_is, more, entries_small q v)))

    -- one index on
    module _ {kinds : List Kind} (kinds_are : kinds ≡ kinds_of q) (k' : JobsLeft) (stepped : Stepped kinds k.left k'.left)
        (summed : Summed (weights_of kinds) (take (length kinds) k'.left) k'.jobs k'.weight) where
      -- no more jobs are left than there are, there too
      pub few_stepped : k'.jobs ≤ q.jobs
      few_stepped =
          let there = rw (kinds_are, counts_known q, kinds_long q, left_here.left_at.here, next_digits (all_left (problem q)) k.index) at stepped.left_after in
          omega (arith, (rw (kinds_are, kinds_long q) at summed).jobs_are, ap sum there, left_small (problem q) _ (left_digits (problem q) (suc k.index)), jobs_is q)

      pub counting_more : k'.index ≡ suc k.index → Counting q k'
      counting_more on = record {
        within = omega (arith, p.block_is);
        left_at = λ b. left_stepped (known q) k k' left_here.left_at (rw kinds_are at stepped) on (rw on at b);
        summed = rw kinds_are at summed;
      }
