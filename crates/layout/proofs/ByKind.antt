-- The jobs listed kind by kind, and what is known of each kind.
-- Assumes nothing.
use Prim.Native.Nat.{ℕ, suc, ◌+◌, ◌-◌, ◌*◌, ◌^◌, ◌<◌, ◌≤◌}
use mathlib.Core.List.{List, ◌++◌, map, flat_map}
use mathlib.Core.Path.{◌≡◌, refl, sym, ap, ◌∙◌}
use native.Mathlib.Nat.{mul-zero}
use native.Mathlib.Omega.{arith}
use lib.ListN.{length, get_or, set, take, drop, replicate, length-map}
use lib.Seq.{sets, take_all}
use Rattle.fields.proofs.Parts.{sets_front}
use Rattle.queue.specs.declared.Queue.{Queue}
use Rattle.queue.specs.Record.{Valid}
use Rattle.sequencing.specs.Lists.{from, upto, sum}
use Rattle.sequencing.specs.States.{jobs_of, K, all_left}
use Rattle.sequencing.specs.Entries.{size, block}
use Rattle.sequencing.proofs.Counting.{length_from}
use Rattle.sequencing.proofs.Sums.{sum_more}
use Rattle.sequencing.proofs.AllJobs.{length_all}
use Rattle.problem.specs.OfQueue.{problem}
use Rattle.jobs_left.specs.declared.Kind.{Kind}
use Rattle.jobs_left.specs.Kinds.{no_kind}
use Rattle.layout.specs.Steps.{of_kind, with_blocks}
use Rattle.layout.specs.Prepared.{by_kind, begin_of, kind_by, kind_of}
use Rattle.layout.proofs.Blocks.{flat_long, sets_in_is, take_sets_in, drop_sets_in}
use Rattle.layout.proofs.Positions.{begin_few}
use Rattle.layout.proofs.Strides.{stride_at, front_more, front_small, blocks_known}
use Rattle.layout.proofs.Storing.{mapped_more, laid_more}
use Rattle.layout.proofs.Listing.{jobs_of_lem}

-- of the first k kinds it is told what is known, and their jobs are listed, up to a position
pub record Counting (q : Queue) (kinds₀ kinds : List Kind) (jobs₀ jobs : List ℕ) (begin stride k : ℕ) : Type 0 where
  pub room : begin ≤ 60
  pub behind : begin ≡ begin_of (problem q) (k + 1)
  pub product : stride ≡ size (take k (all_left (problem q)))
  pub kinds_are : kinds ≡ sets kinds₀ 0 (map (kind_by q 0) (upto k))
  pub jobs_are : jobs ≡ sets jobs₀ 0 (flat_map (jobs_of (problem q)) (upto k))

pub counting_none : {q : Queue} {kinds₀ : List Kind} {jobs₀ : List ℕ} → Counting q kinds₀ kinds₀ jobs₀ jobs₀ 0 1 0
unfolding begin_of sum from size flat_map
counting_none = record { room = omega arith; behind = refl; product = refl; kinds_are = refl; jobs_are = refl }

-- the jobs of the next kind
abbrev next_own : Queue → ℕ → List ℕ
next_own q k = of_kind (take q.jobs q.job_kinds) (k + 1)

module _ {q : Queue} (v : Valid q) {k : ℕ} (h : k < q.kinds) where
  many : length (next_own q k) ≡ K (problem q) (k + 1)
  many = ap length (jobs_of_lem q v (k + 1))

  -- they have room
  pub jobs_room : length (next_own q k) + begin_of (problem q) (k + 1) ≤ 60
  jobs_room = omega (arith, many, begin_few q v (k + 1) (omega arith) (omega arith))

  product_more : size (take k (all_left (problem q))) * (length (next_own q k) + 1) ≡ size (take (k + 1) (all_left (problem q)))
  product_more = rw many (front_more v k h)

  pub product_fits : size (take k (all_left (problem q))) * (length (next_own q k) + 1) < 2 ^ 64
  product_fits = omega (arith, product_more, front_small v (k + 1))

  begin_more : begin_of (problem q) (k + 1) + length (next_own q k) ≡ begin_of (problem q) (k + 1 + 1)
  unfolding begin_of
  begin_more =
      let d : k + 1 - 1 ≡ k = omega arith in
      let f : k + 1 + 1 - 1 ≡ suc k = omega arith in
      let g : k + 1 ≡ 1 + k = omega arith in
      rw (f, sum_more (K (problem q)) 1 k, many, d, g)

module _ {q : Queue} (v : Valid q) {kinds₀ kinds : List Kind} {jobs₀ jobs : List ℕ} {begin stride k : ℕ}
    (w : Counting q kinds₀ kinds jobs₀ jobs begin stride k) where
  begin_is : begin ≡ length (flat_map (jobs_of (problem q)) (upto k))
  unfolding begin_of
  begin_is = let d : k + 1 - 1 ≡ k = omega arith in w.behind ∙ rw d (sym (flat_long (jobs_of (problem q)) 1 k))

  module _ (h : k < q.kinds) {n : ℕ} (e : n ≡ length (next_own q k)) where
    kind_is : record { count = n; weight = get_or q.weights k 0; stride = stride; block = 0; begin = begin; slot = begin + k } ≡ kind_by q 0 (k + 1)
    kind_is = let d : k + 1 - 1 ≡ k = omega arith in rw (e, many v h, w.product, stride_at v k h, w.behind, d, mul-zero k)

    pub counting_more : length jobs₀ ≡ 60 → {part : List ℕ} → part ≡ sets (take (60 - begin) (drop begin jobs)) 0 (next_own q k)
        → Counting q kinds₀ (set kinds k (record { count = n; weight = get_or q.weights k 0; stride = stride; block = 0; begin = begin; slot = begin + k }))
        jobs₀ (take begin jobs ++ (part ++ drop (60 - begin) (drop begin jobs))) (begin + n) (stride * (n + 1)) (k + 1)
    counting_more long f =
        let room : begin + length (jobs_of (problem q) (k + 1)) ≤ 60 = omega (arith, w.behind, many v h, jobs_room v h) in
        record {
          room = omega (arith, w.behind, e, jobs_room v h);
          behind = rw (w.behind, e) (begin_more v h);
          product = rw (w.product, e) (product_more v h);
          kinds_are = rw (kind_is, w.kinds_are) (mapped_more (kind_by q 0) kinds₀ k (kind_by q 0 (k + 1)) refl);
          jobs_are = laid_more (jobs_of (problem q)) jobs₀ jobs k begin 60 w.jobs_are begin_is long room (f ∙ rw (jobs_of_lem q v (k + 1)));
        }

  pub counting_done : k ≡ q.kinds → (stride ≡ block (problem q)) × (jobs ≡ sets jobs₀ 0 (by_kind (problem q)))
  unfolding by_kind
  counting_done e = (rw e at w.product ∙ ap size (take_all q.kinds (all_left (problem q)) (omega (arith, length_all (problem q)))), rw e at w.jobs_are)

-- what is known of all kinds, their entries b apart
abbrev kinds_by : Queue → (b : ℕ) → List Kind
kinds_by q b = map (kind_by q b) (upto q.kinds)

module _ {q : Queue} (v : Valid q) where
  kinds_long : (b : ℕ) → length (kinds_by q b) ≡ q.kinds
  kinds_long b = length-map (upto q.kinds) (kind_by q b) ∙ length_from 1 q.kinds

  -- in the front of an array with room for five
  pub front_known : (array : List Kind) → length array ≡ 5 → {front : List Kind} → front ≡ sets (take q.kinds array) 0 (kinds_by q 0)
      → front ++ drop q.kinds array ≡ sets array 0 (kinds_by q 0)
  front_known array long e = rw e (sets_front q.kinds (kinds_by q 0) array (omega (arith, kinds_long 0)) (omega (arith, v.kinds)))

  -- and with their blocks set
  pub kinds_known : {kinds front : List Kind} {p : ℕ} → kinds ≡ sets (replicate 5 no_kind) 0 (kinds_by q 0) → front ≡ with_blocks p 0 (take q.kinds kinds)
      → p ≡ block (problem q) → front ++ drop q.kinds kinds ≡ sets (replicate 5 no_kind) 0 (map (kind_of q) (upto q.kinds))
  kinds_known {p = p} e f is =
      let n : ℕ = q.kinds in
      let none : List Kind = replicate 5 no_kind in
      let fits : (b : ℕ) → length (kinds_by q b) ≤ 5 = λ b. omega (arith, kinds_long b, v.kinds) in
      rw (f, e, take_sets_in none (kinds_by q 0) (fits 0) n (kinds_long 0), drop_sets_in none (kinds_by q 0) (fits 0) n (kinds_long 0), blocks_known q p)
      (sym (sets_in_is none (kinds_by q p) (fits p) n (kinds_long p)) ∙ ap (λ b. sets none 0 (kinds_by q b)) is)
