-- All jobs are left, at the last index.
-- Assumes nothing.
use Prim.Native.Nat.{ℕ, zero, suc, ◌+◌, ◌-◌, ◌≤◌, ◌<◌}
use mathlib.Core.List.{List, [], ◌∷◌, map}
use mathlib.Core.Logic.{inl, inr}
use mathlib.Core.Path.{◌≡◌, refl, sym, ap, ◌∙◌}
use native.Mathlib.Nat.{mul-suc}
use native.Mathlib.Omega.{arith}
use lib.ListN.{length, get_or, set, replicate, get_or-map, get_or-eq_default, length-map}
use lib.Seq.{sets, length-sets, ext_get_or}
use Rattle.std.proofs.lemmas.List.{map-set}
use Rattle.number.proofs.Steps.{below_or_not}
use Rattle.fields.specs.Lists.{filled}
use Rattle.fields.proofs.Arrays.{filled_past}
use Rattle.queue.specs.declared.Queue.{Queue}
use Rattle.queue.specs.Record.{Valid}
use Rattle.sequencing.specs.Lists.{at, upto, sum}
use Rattle.sequencing.specs.States.{all_left}
use Rattle.sequencing.specs.Entries.{size, index, digits, k_at, block}
use Rattle.sequencing.proofs.AllJobs.{get_d_map_from, length_all, sum_all}
use Rattle.sequencing.proofs.Radix.{size_pos, digits_index}
use Rattle.sequencing.proofs.Vectors.{at_sum}
use Rattle.problem.specs.OfQueue.{problem}
use Rattle.problem.proofs.Rule.{jobs_is, proper, few_jobs}
use Rattle.jobs_left.specs.declared.Kind.{Kind}
use Rattle.jobs_left.specs.Kinds.{no_kind, counts_of, weights_of}
use Rattle.jobs_left.specs.Steps.{LeftAt}
use Rattle.jobs_left.proofs.Weights.{weight_at}
use Rattle.layout.specs.declared.Layout.{Layout}
use Rattle.layout.specs.Prepared.{kind_of, Prepared}
use Rattle.layout.proofs.Blocks.{get_d_sets_in, take_sets_in}
use Rattle.layout.proofs.Prepared.{kinds_long, counts_known}

index_last : (cs : List ℕ) → suc (index cs cs) ≡ size cs
unfolding index size
index_last [] = refl
index_last (c ∷ cs) = rw (← (index_last cs), mul-suc (suc c) (index cs cs)) (omega arith)

pub all_jobs : {q : Queue} → Valid q → sum (all_left (problem q)) ≡ q.jobs
all_jobs {q} v = sum_all (problem q) (proper q v) ∙ jobs_is q

pub last_is : (q : Queue) → k_at (problem q) (block (problem q) - 1) ≡ all_left (problem q)
last_is q =
    let a = all_left (problem q) in
    let e : block (problem q) - 1 ≡ index a a = omega (arith, index_last a) in
    ap (digits a) e ∙ digits_index a a refl (λ j. omega arith)

-- ---- the array that holds them

map_sets : {A B : Type 0} (f : A → B) (l : List A) (i : ℕ) (vs : List A) → map f (sets l i vs) ≡ sets (map f l) i (map f vs)
map_sets f l i [] = refl
map_sets f l i (v ∷ vs) = map_sets f (set l i v) (suc i) vs ∙ ap (λ xs. sets xs (suc i) (map f vs)) (map-set f l i v)

module _ {q : Queue} {l : Layout} (p : Prepared q l) where
  pub some_block : 1 ≤ l.size.block
  some_block = omega (arith, p.block_is, size_pos (all_left (problem q)))

  -- an array of the kinds' counts
  pub counts_held : (left : List ℕ) → length left ≡ 5
      → ((i : ℕ) → i < 5 → get_or left i 0 ≡ (get_or l.kinds i no_kind).count) → left ≡ filled 5 (all_left (problem q))
  counts_held left long h =
      let vs : List Kind = map (kind_of q) (upto q.kinds) in
      ext_get_or 0 left (counts_of l.kinds)
      (long ∙ sym (length-map l.kinds (λ k. k.count) ∙ ap length p.known_kinds ∙ length-sets (replicate 5 no_kind) 0 vs))
      (λ i u. h i (omega arith) ∙ sym (get_or-map (λ k. k.count) l.kinds i no_kind))
      ∙ ap counts_of p.known_kinds ∙ map_sets (λ k. k.count) (replicate 5 no_kind) 0 vs ∙ ap (filled 5) (counts_known q)

module _ {q : Queue} (v : Valid q) where
  few_kinds : length (all_left (problem q)) ≤ 5
  few_kinds = omega (arith, length_all (problem q), v.kinds)

  pub counts_small : (i : ℕ) → get_or (filled 5 (all_left (problem q))) i 0 ≤ 60
  counts_small i = elim (below_or_not i (length (all_left (problem q)))) [
    | inl h ↦ omega (
      arith,
      get_d_sets_in (replicate 5 0) (all_left (problem q)) few_kinds 0 i h,
      at_sum (all_left (problem q)) (suc i),
      sum_all (problem q) (proper q v),
      few_jobs q v,
    )
    | inr h ↦ omega (arith, filled_past 5 (all_left (problem q)) i h)
  ]

  -- the weights of all kinds, or of the first ones
  pub weights_small : (kinds : List Kind) (i : ℕ) → get_or kinds i no_kind ≡ get_or (map (kind_of q) (upto q.kinds)) i no_kind
      → get_or (weights_of kinds) i 0 ≤ 1000
  weights_small kinds i e = elim (below_or_not i q.kinds) [
    | inl h ↦ rw (weight_at, e, get_d_map_from (kind_of q) 1 q.kinds i no_kind h) (v.weights (1 + i) (omega arith) (omega arith))
    | inr h ↦ rw (weight_at, e, get_or-eq_default (map (kind_of q) (upto q.kinds)) no_kind {n = i} (omega (arith, kinds_long q))) (omega arith)
  ]

  -- they are all jobs of the queue
  pub last_left : LeftAt (problem q) (filled 5 (all_left (problem q))) (block (problem q) - 1)
  last_left = record {
    long = length-sets (replicate 5 0) 0 (all_left (problem q));
    here = take_sets_in (replicate 5 0) (all_left (problem q)) few_kinds q.kinds (length_all (problem q)) ∙ sym (last_is q);
    past = past;
    within = omega (arith, size_pos (all_left (problem q)));
  }
    where
      past : (j : ℕ) → q.kinds < j → at (filled 5 (all_left (problem q))) j ≡ 0
      past zero h = absurd (omega arith)
      past (suc i) h = filled_past 5 (all_left (problem q)) i (omega (arith, length_all (problem q)))
