-- The strides of the kinds, and where their entries begin.
-- Assumes nothing.
use Prim.Native.Nat.{ℕ, zero, suc, ◌+◌, ◌-◌, ◌*◌, ◌^◌, ◌<◌, ◌≤◌}
use mathlib.Core.List.{List, [], ◌∷◌, ◌++◌, map, append_assoc, append-nil}
use mathlib.Core.Path.{◌≡◌, refl, sym, ap, ap₂, ◌∙◌}
use native.Mathlib.Nat.{suc-mul, zero-mul, mul-le-mul, mul-le-mul_left}
use native.Mathlib.Omega.{arith}
use lib.ListN.{length, get_or, set, take, drop}
use lib.Seq.{take_all, drop-set-lt}
use Rattle.std.proofs.lemmas.List.{drop_more, drop_all, take_more, take_more_set}
use Rattle.queue.specs.declared.Queue.{Queue}
use Rattle.queue.specs.Record.{Valid}
use Rattle.sequencing.specs.Lists.{at, from, upto}
use Rattle.sequencing.specs.Problem.{Problem}
use Rattle.sequencing.specs.States.{K, all_left}
use Rattle.sequencing.specs.Entries.{size, stride, block}
use Rattle.sequencing.proofs.Radix.{size_pos, size_more}
use Rattle.sequencing.proofs.AllJobs.{at_all, length_all}
use Rattle.problem.specs.OfQueue.{problem}
use Rattle.problem.proofs.Sizes.{entries_small}
use Rattle.jobs_left.specs.declared.Kind.{Kind}
use Rattle.jobs_left.specs.Kinds.{no_kind}
use Rattle.layout.specs.Prepared.{kind_by}
use Rattle.layout.specs.Steps.{with_blocks}

-- ---- strides

-- one job of a kind counts for as much as the kinds before it have k
stride_size : (cs : List ℕ) (j : ℕ) → j < length cs → stride cs (j + 1) ≡ size (take j cs)
unfolding stride size
stride_size [] j h = absurd (omega arith)
stride_size (c ∷ cs) zero h = refl
stride_size (c ∷ cs) (suc j) h =
    let e : suc j + 1 ≡ suc (suc j) = omega arith in
    let f : j + 1 ≡ suc j = omega arith in
    rw e (ap (λ n. suc c * n) (rw f at (stride_size cs j (omega arith))))

-- which is no more than all kinds have
size_front : (cs : List ℕ) (j : ℕ) → size (take j cs) ≤ size cs
unfolding size
size_front cs zero = size_pos cs
size_front [] (suc j) = omega arith
size_front (c ∷ cs) (suc j) = mul-le-mul_left (suc c) (size_front cs j)

module _ {q : Queue} (v : Valid q) (k : ℕ) (h : k < q.kinds) where
  -- the next kind's
  count_at : get_or (all_left (problem q)) k 0 ≡ K (problem q) (k + 1)
  count_at = let e : suc k ≡ k + 1 = omega arith in ap (at (all_left (problem q))) e ∙ at_all (problem q) (k + 1) (omega arith) (omega arith)

  pub stride_at : size (take k (all_left (problem q))) ≡ stride (all_left (problem q)) (k + 1)
  stride_at = sym (stride_size (all_left (problem q)) k (omega (arith, length_all (problem q))))

  pub front_more : size (take k (all_left (problem q))) * (K (problem q) (k + 1) + 1) ≡ size (take (k + 1) (all_left (problem q)))
  front_more =
      let e : K (problem q) (k + 1) + 1 ≡ suc (get_or (all_left (problem q)) k 0) = omega (arith, count_at) in
      rw e (sym (size_more (take k (all_left (problem q))) (get_or (all_left (problem q)) k 0)))
      ∙ ap size (sym (take_more (all_left (problem q)) k 0 (omega (arith, length_all (problem q)))))

pub front_small : {q : Queue} (v : Valid q) (k : ℕ) → size (take k (all_left (problem q))) < 2 ^ 64
front_small {q} v k =
    let P : Problem = problem q in
    omega (arith, size_front (all_left P) k, mul-le-mul {n₁ = 1} {m₁ = block P} {n₂ = q.kinds} {m₂ = block P} v.kinds.0 (omega arith), entries_small q v)

-- ---- blocks

-- of the first i kinds it is told where their entries begin, and the next one's begin at `at`
pub record Spacing (block : ℕ) (kinds₀ kinds : List Kind) (at i : ℕ) : Type 0 where
  pub next : at ≡ i * block
  pub means : with_blocks block 0 kinds₀ ≡ take i kinds ++ with_blocks block at (drop i kinds)

module _ {block : ℕ} {kinds₀ kinds : List Kind} {at i : ℕ} (w : Spacing block kinds₀ kinds at i) where
  pub spacing_more : i < length kinds → Spacing block kinds₀ (set kinds i (record (get_or kinds i no_kind) { block = at })) (at + block) (i + 1)
  unfolding with_blocks
  spacing_more h =
      let kind : Kind = record (get_or kinds i no_kind) { block = at } in
      let s : i + 1 ≡ suc i = omega arith in
      record {
        next = rw (s, suc-mul i block, w.next);
        means =
            w.means
            ∙ rw (drop_more kinds i no_kind h, take_more_set kinds i kind h, drop-set-lt (i + 1) kinds i kind (omega arith))
            (sym (append_assoc (take i kinds) (kind ∷ []) (with_blocks block (at + block) (drop (i + 1) kinds))));
      }

  pub spacing_done : length kinds ≤ i → kinds ≡ with_blocks block 0 kinds₀
  unfolding with_blocks
  spacing_done h = sym (w.means ∙ rw (take_all i kinds h, drop_all i kinds h) (append-nil kinds))

-- with them a kind that was known but for its block is known
module _ (q : Queue) (block : ℕ) where
  blocks_from : (k n : ℕ) → with_blocks block (k * block) (map (kind_by q 0) (from (suc k) n)) ≡ map (kind_by q block) (from (suc k) n)
  unfolding with_blocks from
  blocks_from k zero = refl
  blocks_from k (suc n) =
      let e : suc k - 1 ≡ k = omega arith in
      ap₂ ◌∷◌ (rw e) (ap (λ at. with_blocks block at (map (kind_by q 0) (from (suc (suc k)) n))) (omega (arith, suc-mul k block)) ∙ blocks_from (suc k) n)

  pub blocks_known : with_blocks block 0 (map (kind_by q 0) (upto q.kinds)) ≡ map (kind_by q block) (upto q.kinds)
  blocks_known = rw (zero-mul block) at (blocks_from 0 q.kinds)
