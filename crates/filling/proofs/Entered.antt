-- What the entries of one k get is their states' values.
-- Assumes nothing.
use Prim.Native.Nat.{ℕ, ◌+◌, ◌-◌, ◌^◌, ◌<◌, ◌≤◌}
use mathlib.Core.Bool.{Bool, true, false, ◌&&◌}
use mathlib.Core.List.{List}
use mathlib.Core.Logic.{inl, inr}
use mathlib.Core.Option.{Option}
use mathlib.Core.Path.{◌≡◌, refl, sym, ap, ◌∙◌}
use native.Mathlib.Nat.{eq-zero-or-pos}
use native.Mathlib.Omega.{arith}
use lib.Dec.{ltb}
use lib.ListN.{get_or, replicate}
use borrow.Author.Tests.{eq-eqb, ne_eqb, lt-ltb}
use Rattle.queue.specs.declared.Queue.{Queue}
use Rattle.sequencing.specs.Lists.{at, sum}
use Rattle.sequencing.specs.States.{K, all_left, job, place}
use Rattle.sequencing.specs.Least.{only}
use Rattle.sequencing.specs.Recursion.{W, permit, value}
use Rattle.sequencing.specs.Entries.{digits}
use Rattle.sequencing.proofs.Entries.{left_digits}
use Rattle.sequencing.proofs.Equations.{value_none_left, value_some_left}
use Rattle.problem.specs.OfQueue.{problem}
use Rattle.problem.proofs.Rule.{jobs_is}
use Rattle.jobs_left.specs.declared.JobsLeft.{JobsLeft}
use Rattle.jobs_left.specs.Kinds.{kind_at}
use Rattle.jobs_left.specs.Steps.{LeftOf}
use Rattle.layout.specs.declared.Setup.{Setup}
use Rattle.layout.specs.PlaceSets.{set_at}
use Rattle.layout.specs.Prepared.{earliest_at, latest_at}
use Rattle.layout.proofs.PlaceSets.{in_places}
use Rattle.layout.proofs.Prepared.{permitted_at, slot_used, places_here, latest_few}
use Rattle.next_states.proofs.Numbers.{left_is}
use Rattle.filling.specs.Filling.{in_place, weight_of, entry_from, Fillable}
use Rattle.filling.proofs.Values.{TableAt, least_is, ready}

only_and : (a b : Bool) (r : Option ℕ) → only (a && b) r ≡ only a (only b r)
only_and true b r = refl
only_and false b r = refl

-- the places permitted to each kind's job just cut, as sets
abbrev pub PlacesOf : Setup → (places : List ℕ) → Type 0
PlacesOf s places = (i : ℕ) → get_or places i 0 ≡ set_at s.layout.places (s.queue.jobs + s.queue.kinds) (replicate 65 0) i

module _ (s : Setup) {table : List ℕ} {n : JobsLeft} (seen : TableAt s.queue table n.left n.index) (of : LeftOf (problem s.queue) n) where
  abbrev q : Queue
  q = s.queue

  abbrev k : List ℕ
  k = digits (all_left (problem q)) n.index

  weight_is : weight_of q table n ≡ W (problem q) k
  unfolding W
  weight_is = rw of.weight_is

  -- what filling the states of this k may rely on
  pub fillable : Fillable q table n
  fillable = record { left_of = of; ready = λ L a b. rw weight_is (ready seen L b) }

  module _ (places : List ℕ) (sets : PlacesOf s places) {here : ℕ} (place_is : here ≡ 2 ^ (q.jobs - n.jobs)) where
    -- 01's place of the jobs just cut
    there : q.jobs - n.jobs ≡ place (problem q) k
    there = omega (arith, jobs_is q, of.jobs_are)

    few : (L : ℕ) → at k L ≤ K (problem q) L
    few = (left_digits (problem q) n.index).within

    -- the place that is looked up is permitted where the recursion permits it
    in_place_lem : (L : ℕ) → 1 ≤ L → L ≤ q.kinds
        → in_place n.left s.layout.kinds places here L ≡ (ltb (at k L) (K (problem q) L) && (problem q).ok (job (problem q) L k) (place (problem q) k))
    in_place_lem L a b =
        let v = s.valid in
        let p = s.prepared in
        let slot = (kind_at s.layout.kinds L).slot + at k L in
        let used : slot < q.jobs + q.kinds = omega (arith, slot_used v p L (at k L) a b (few L), p.jobs_are, p.kinds_are) in
        rw (left_is seen.left_at L a, sets slot, lt-ltb slot (q.jobs + q.kinds) used, places_here v p L (at k L) a b (few L), place_is, there)
        (in_places (earliest_at q L (at k L)) (latest_at q L (at k L)) (place (problem q) k) (latest_few v p L (at k L) a b) ∙ permitted_at q L (at k L) (place (problem q) k))

    -- what an entry gets is its state's value
    pub entry_is_value : (L : ℕ) → 1 ≤ L → L ≤ q.kinds → entry_from q table n (in_place n.left s.layout.kinds places here) L ≡ value (problem q) L k
    unfolding entry_from
    entry_is_value L a b =
        rw (in_place_lem L a b, weight_is, of.jobs_are)
        (only_and (ltb (at k L) (K (problem q) L)) ((problem q).ok (job (problem q) L k) (place (problem q) k)) _ ∙ elim (eq-zero-or-pos (sum k)) [
          | inl e ↦ rw (eq-eqb (sum k) 0 e) (sym (value_none_left (problem q) L k e))
          | inr h ↦ rw (ne_eqb (sum k) 0 (λ e. omega arith)) (ap (permit (problem q) L k) (least_is seen L) ∙ sym (value_some_left (problem q) L k h))
        ])
