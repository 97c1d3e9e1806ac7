-- What is prepared, read element by element.
-- Assumes nothing.
use Prim.Native.Nat.{ℕ, zero, suc, ◌+◌, ◌-◌, ◌*◌, ◌^◌, ◌≤◌, ◌<◌}
use mathlib.Core.Bool.{false, ◌&&◌}
use mathlib.Core.List.{List, map, map-map}
use mathlib.Core.Logic.{inl, inr}
use mathlib.Core.Path.{◌≡◌, refl, sym, ap, ap₂, ◌∙◌}
use native.Mathlib.Omega.{arith}
use borrow.Author.Tests.{le-leb, lt-leb, lt-ltb, le-ltb}
use lib.Dec.{leb, ltb}
use lib.ListN.{length, get_or, take, replicate}
use lib.Seq.{sets}
use Rattle.queue.specs.declared.Queue.{Queue}
use Rattle.queue.specs.Record.{weight, Valid}
use Rattle.sequencing.specs.Lists.{at, upto}
use Rattle.sequencing.specs.States.{jobs_of, K, all_left}
use Rattle.sequencing.specs.Entries.{entries}
use Rattle.sequencing.proofs.AllJobs.{get_d_map_from, sum_all}
use Rattle.number.proofs.Steps.{bool_cases, below_or_not}
use Rattle.problem.specs.OfQueue.{problem}
use Rattle.problem.specs.PlaceRule.{latest}
use Rattle.problem.proofs.Rule.{allowed_between, jobs_is, proper}
use Rattle.problem.proofs.Sizes.{entries_small}
use Rattle.jobs_left.specs.declared.Kind.{Kind}
use Rattle.jobs_left.specs.Kinds.{no_kind, kind_at, counts_of, weights_of}
use Rattle.jobs_left.proofs.LeftAt.{KindsOf, many_kinds}
use Rattle.layout.specs.declared.Layout.{Layout}
use Rattle.layout.specs.Prepared.{no_place, begin_of, by_slot, by_kind, slot_of, job_cut, earliest_at, latest_at, places_at, kind_of, Prepared}
use Rattle.layout.proofs.Blocks.{get_d_sets_in, take_sets_in}
use Rattle.layout.proofs.Positions.{kind_cut, begin_few, all_by_kind, by_kind_at, by_slot_long, all_by_slot, slot_within, by_slot_at}

none_between : (p : ℕ) → leb 1 p && leb p 0 ≡ false
none_between zero = refl
none_between (suc p) = rw (le-leb 1 (suc p) (omega arith), lt-leb (suc p) 0 (omega arith))

module _ (q : Queue) where
  -- the window of the job just cut is 01's rule for it; where none was cut no place is in it
  pub permitted_at : (L n p : ℕ)
      → (leb (earliest_at q L n) p && leb p (latest_at q L n)) ≡ (ltb n (K (problem q) L) && (problem q).ok (job_cut (problem q) L n) p)
  unfolding earliest_at latest_at
  permitted_at L n p = elim (bool_cases (ltb n (K (problem q) L))) [
    | inl e ↦ rw e (sym (allowed_between q (job_cut (problem q) L n) p))
    | inr e ↦ rw e (none_between p)
  ]

  -- ---- what is known of its kinds

  pub counts_known : counts_of (map (kind_of q) (upto q.kinds)) ≡ all_left (problem q)
  unfolding all_left
  counts_known = map-map (λ k. k.count) (kind_of q) (upto q.kinds)

  pub weights_known : (j : ℕ) → 1 ≤ j → j ≤ q.kinds → get_or (weights_of (map (kind_of q) (upto q.kinds))) (j - 1) 0 ≡ weight q j
  weights_known j h u =
      ap (λ ws. get_or ws (j - 1) 0) (map-map (λ k. k.weight) (kind_of q) (upto q.kinds))
      ∙ get_d_map_from (weight q) 1 q.kinds (j - 1) 0 (omega arith) ∙ ap (weight q) (omega arith)

  pub known : KindsOf (problem q) (map (kind_of q) (upto q.kinds))
  known = record { counts_are = counts_known; weights_are = weights_known }

  pub kinds_long : length (map (kind_of q) (upto q.kinds)) ≡ q.kinds
  kinds_long = many_kinds known

  module _ (v : Valid q) where
    pub kinds_room : length (map (kind_of q) (upto q.kinds)) ≤ 5
    kinds_room = omega (arith, kinds_long, v.kinds)

    -- an array that holds it
    pub kind_in : {kinds : List Kind} → kinds ≡ sets (replicate 5 no_kind) 0 (map (kind_of q) (upto q.kinds))
        → (L : ℕ) → 1 ≤ L → L ≤ q.kinds → kind_at kinds L ≡ kind_of q L
    kind_in e L h u =
        ap (λ ks. kind_at ks L) e
        ∙ get_d_sets_in (replicate 5 no_kind) (map (kind_of q) (upto q.kinds)) kinds_room no_kind (L - 1) (omega (arith, kinds_long))
        ∙ get_d_map_from (kind_of q) 1 q.kinds (L - 1) no_kind (omega arith) ∙ ap (kind_of q) (omega arith)

-- ---- what is prepared for it

module _ {q : Queue} {l : Layout} (p : Prepared q l) where
  -- N × P
  pub sized : l.size.kinds * l.size.block ≡ entries (problem q)
  sized = ap₂ ◌*◌ p.kinds_are p.block_is

  pub size_fits : Valid q → l.size.kinds * l.size.block < 2 ^ 64
  size_fits v = omega (arith, sized, entries_small q v)

module _ {q : Queue} (v : Valid q) {l : Layout} (p : Prepared q l) where
  -- ---- what is known of each kind

  pub kind_is : (L : ℕ) → 1 ≤ L → L ≤ q.kinds → kind_at l.kinds L ≡ kind_of q L
  kind_is = kind_in q v p.known_kinds

  pub kinds_take : take q.kinds l.kinds ≡ map (kind_of q) (upto q.kinds)
  kinds_take = ap (take q.kinds) p.known_kinds ∙ take_sets_in (replicate 5 no_kind) (map (kind_of q) (upto q.kinds)) (kinds_room q v) q.kinds (kinds_long q)

  -- no place permitted is past 60
  pub latest_few : (L n : ℕ) → 1 ≤ L → L ≤ q.kinds → latest_at q L n ≤ 60
  unfolding latest_at latest
  latest_few L n h u = elim (below_or_not n (K (problem q) L)) [
    | inl few ↦ rw (lt-ltb n (K (problem q) L) few, kind_cut q L n h few) (omega (arith, v.places L h u))
    | inr all ↦ rw (le-ltb n (K (problem q) L) all) (omega arith)
  ]

  module _ (L n : ℕ) (h : 1 ≤ L) (u : L ≤ q.kinds) where
    -- ---- the jobs of each kind

    begin_is : (kind_at l.kinds L).begin ≡ begin_of (problem q) L
    begin_is = ap (λ k. k.begin) (kind_is L h u)

    pub job_in : n < K (problem q) L → (kind_at l.kinds L).begin + n < 60
    job_in few = omega (arith, begin_is, begin_few q v L h u)

    pub jobs_at : n < K (problem q) L → get_or l.jobs ((kind_at l.kinds L).begin + n) 0 ≡ at (jobs_of (problem q) L) (suc n)
    jobs_at few =
        let b = by_kind_at q v L n h u few in
        rw (p.jobs_by_kind, begin_is) (get_d_sets_in (replicate 60 0) (by_kind (problem q)) (all_by_kind q v) 0 (begin_of (problem q) L + n) b.0 ∙ b.1)

    -- ---- the places permitted to the job just cut

    slot_is : (kind_at l.kinds L).slot ≡ slot_of (problem q) L
    slot_is = ap (λ k. k.slot) (kind_is L h u)

    pub slot_in : n ≤ K (problem q) L → (kind_at l.kinds L).slot + n < 65
    slot_in few = omega (arith, slot_is, begin_few q v L h u, v.kinds)

    pub slot_used : n ≤ K (problem q) L → (kind_at l.kinds L).slot + n < l.size.jobs + l.size.kinds
    slot_used few = omega (
      arith,
      slot_is,
      slot_within q v (places_at q) L n h u few,
      by_slot_long q v (places_at q),
      sum_all (problem q) (proper q v),
      jobs_is q,
      p.jobs_are,
      p.kinds_are,
    )

    pub places_here : n ≤ K (problem q) L → get_or l.places ((kind_at l.kinds L).slot + n) no_place ≡ places_at q L n
    places_here few =
        rw (p.places_are, slot_is)
        (get_d_sets_in (replicate 65 no_place) (by_slot (problem q) (places_at q)) (all_by_slot q v (places_at q)) no_place (slot_of (problem q) L + n)
        (slot_within q v (places_at q) L n h u few)
        ∙ by_slot_at q v (places_at q) L n h u few no_place)
