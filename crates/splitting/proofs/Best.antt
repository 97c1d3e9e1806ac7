-- The split taken: it is a split, is permitted and costs what it says, no permitted split costs less, it is 02's first among equal costs, and there
-- is none exactly where no split is permitted.
-- Assumes nothing.
use mathlib.Core.List.{List, []}
use mathlib.Core.Logic.{inl, inr, ◌↔◌, ◌≢◌}
use mathlib.Core.Option.{Option, none, some}
use mathlib.Core.Path.{◌≡◌, refl, sym, ap, ap₂, ◌∙◌}
use mathlib.Mathlib.Data.Bool.Basic.{dichotomy}
use Prim.Native.Nat.{ℕ, ◌≤◌}
use native.Mathlib.Omega.{arith}
use lib.Dec.{eqb}
use lib.ListN.{length, length-map}
use Rattle.sequencing.specs.Lists.{upto, sum}
use Rattle.sequencing.specs.Problem.{Problem, T, kind, Proper, NoneForbidden}
use Rattle.sequencing.specs.Orders.{finishes, makespan, weighted_completion, cost}
use Rattle.sequencing.specs.States.{all_left, IsLeft}
use Rattle.sequencing.specs.Recursion.{cost_to_go, plan_cost}
use Rattle.sequencing.proofs.AllJobs.{at_all, length_all, sum_all, all_left_lem, below_all}
use Rattle.sequencing.proofs.Options.{some_eq, none_some, Upto}
use Rattle.splitting.specs.Splits.{on_cutter, of_both, IsSplit, SplitPermitted, split_cost}
use Rattle.splitting.specs.Shares.{share, share_order, first_share, second_share}
use Rattle.splitting.specs.Taken.{both, counts_cost, taken_cost, taken_counts, first_order, second_order, Taken}
use Rattle.splitting.proofs.Lists.{same_at, count_length}
use Rattle.splitting.proofs.Bridge.{Alike, plan_bridge}
use Rattle.splitting.proofs.Shares.{in_turn_lem, Planned, share_proper, listed_free, planned, planned_least}
use Rattle.splitting.proofs.Counts.{Together, split_together, together_split, among, together_kinds, shares_together, in_shares, first_counts, second_K}
use Rattle.splitting.proofs.Least.{Within, least_below, least_within, least_first}
use Rattle.splitting.proofs.Precedes.{precedes_one}

-- 02's empty cutter
pub no_jobs : (P : Problem) → cost P [] ≡ 0
unfolding cost finishes makespan weighted_completion
no_jobs P = elim (dichotomy (eqb P.goal 1)) [ inr e ↦ rw e refl | inl e ↦ rw e refl ]

-- neither goal's cost falls where neither cutter's does
both_mono : (goal a b a' b' : ℕ) → a ≤ a' → b ≤ b' → of_both goal a b ≤ of_both goal a' b'
both_mono goal a b a' b' p q = elim (dichotomy (eqb goal 1)) [ inr e ↦ rw e (omega arith) | inl e ↦ rw e (omega arith) ]

-- where both have a cost together, each has one
pub both_some : (goal : ℕ) (r q : Option ℕ) (c : ℕ) → both goal r q ≡ some c → (a b : ℕ) × (r ≡ some a) × (q ≡ some b) × (c ≡ of_both goal a b)
both_some goal none q c e = absurd (none_some c e)
both_some goal (some a) none c e = absurd (none_some c e)
both_some goal (some a) (some b) c e = (a, b, refl, refl, sym (some_eq _ c e))

module _ (P : Problem) where
  -- shares with the same counts cost the same
  alike : (s : ℕ) (a b : List ℕ) → Alike (share P s a) (share P s b)
  alike s a b = record { N = refl; gap = refl; goal = refl; weight = refl; permitted_P = λ i p l u l' u'. tt; permitted_Q = λ i p l u l' u'. tt }

  same_plan : (s : ℕ) (a b : List ℕ) → all_left (share P s a) ≡ all_left (share P s b) → plan_cost (share P s a) ≡ plan_cost (share P s b)
  unfolding plan_cost
  same_plan s a b e =
      plan_bridge (share P s b) (share P s a) (alike s b a) (rw e (all_left_lem (share P s b))) ∙ ap (cost_to_go (share P s b) s) e

  -- where counts have a cost, each cutter has a plan
  pub counts_are : (s : ℕ) (n : List ℕ) (c : ℕ) → counts_cost P s n ≡ some c
      → (a b : ℕ) × (plan_cost (share P P.start (first_share P n)) ≡ some a) × (plan_cost (share P s (second_share P n)) ≡ some b)
      × (c ≡ of_both P.goal a b)
  unfolding counts_cost
  counts_are s n c e = both_some P.goal (plan_cost (share P P.start (first_share P n))) (plan_cost (share P s (second_share P n))) c e

module _ (P : Problem) (proper : Proper P) (s : ℕ) where
  -- ---- any split's jobs as two shares

  module _ (a b : List ℕ) (t : Together P a b) where
    -- the counts that they have of each kind on the first cutter
    abbrev theirs : List ℕ
    theirs = all_left (share P P.start a)

    theirs_left : IsLeft P theirs
    theirs_left = record {
      long = length_all (share P P.start a);
      within = λ j. omega (arith, (all_left_lem (share P P.start a)).within j, together_kinds P a b t P.start s j);
    }

    -- and on the second
    others_same : all_left (share P s (second_share P theirs)) ≡ all_left (share P s b)
    others_same =
        let Q₁ = share P P.start a in
        let Q₂ = share P s b in
        let R = share P s (second_share P theirs) in
        same_at (all_left R) (all_left Q₂) (length_all R ∙ sym (length_all Q₂)) (λ j l u. omega (
          arith,
          length_all R,
          at_all R j l (omega (arith, length_all R)),
          at_all Q₁ j l (omega (arith, length_all R)),
          at_all Q₂ j l (omega (arith, length_all R)),
          second_K P theirs theirs_left s j,
          together_kinds P a b t P.start s j,
        ))

    -- the split by those counts costs what the two plans cost
    counts_cost_lem : counts_cost P s theirs ≡ both P.goal (plan_cost (share P P.start a)) (plan_cost (share P s b))
    unfolding counts_cost
    counts_cost_lem = ap₂ (both P.goal)
        (same_plan P P.start (first_share P theirs) a (first_counts P theirs theirs_left P.start))
        (same_plan P s (second_share P theirs) b others_same)

    -- where neither has a forbidden succession, those counts have a cost, and no greater one
    counts_least : SplitPermitted P s a b → (d : ℕ) × (counts_cost P s theirs ≡ some d) × (d ≤ split_cost P s a b)
    unfolding split_cost
    counts_least g =
        let (c, p, l) = planned_least P P.start a proper (λ z h. among P a b t z (omega arith)) g.first in
        let (d, q, m) = planned_least P s b proper (λ z h. among P a b t z (omega arith)) g.second in
        (of_both P.goal c d, counts_cost_lem ∙ ap₂ (both P.goal) p q, both_mono P.goal c d (cost P a) (cost (on_cutter P s) b) l m)

  -- ---- the split by counts

  module _ (n : List ℕ) (c : ℕ) (e : counts_cost P s n ≡ some c) where
    on_first : Planned P P.start (first_share P n) (counts_are P s n c e).0
    on_first = planned P P.start (first_share P n) proper (λ z h. in_shares P n z (omega arith)) (counts_are P s n c e).0 (counts_are P s n c e).2

    on_second : Planned P s (second_share P n) (counts_are P s n c e).1
    on_second = planned P s (second_share P n) proper (λ z h. in_shares P n z (omega arith)) (counts_are P s n c e).1 (counts_are P s n c e).3

    counts_split : IsSplit P (share_order P P.start (first_share P n)) (share_order P s (second_share P n))
    counts_split = together_split P (share_order P P.start (first_share P n)) (share_order P s (second_share P n))
        (λ z. omega (arith, on_first.jobs z, on_second.jobs z, shares_together P n z))

    counts_permitted : SplitPermitted P s (share_order P P.start (first_share P n)) (share_order P s (second_share P n))
    counts_permitted = record { first = on_first.successions; second = on_second.successions }

    counts_costs : split_cost P s (share_order P P.start (first_share P n)) (share_order P s (second_share P n)) ≡ c
    unfolding split_cost
    counts_costs = ap₂ (of_both P.goal) on_first.costs on_second.costs ∙ sym (counts_are P s n c e).4

    -- as many jobs as the counts say
    counts_long : IsLeft P n → length (share_order P P.start (first_share P n)) ≡ sum n
    counts_long l =
        let js = first_share P n in
        let jobs = sum_all (share P P.start js) (share_proper P P.start js proper (λ z h. in_shares P n z (omega arith))) in
        count_length (share_order P P.start js) js on_first.jobs ∙ sym (length-map js (kind P)) ∙ sym jobs ∙ ap sum (first_counts P n l P.start)

  -- ---- the split taken

  within : (n : List ℕ) → IsLeft P n → Within (all_left P) n
  within n l = record { long = l.long ∙ sym (length_all P); each = below_all P n l }

  left : (n : List ℕ) → Within (all_left P) n → IsLeft P n
  left n w = record { long = w.long ∙ length_all P; within = λ j. omega (arith, w.each j, (all_left_lem P).within j) }

  -- what costs something is no less than the split taken
  pub taken_below : (m : List ℕ) (d : ℕ) → IsLeft P m → counts_cost P s m ≡ some d → Upto d (taken_cost P s)
  unfolding taken_cost
  taken_below m d l g = least_below (counts_cost P s) (all_left P) m d (within m l) (rw g (omega arith))

  module _ (c : ℕ) (e : taken_cost P s ≡ some c) where
    -- 02's sentence on equal costs
    pub taken : Taken P s (taken_counts P s) c
    unfolding taken_cost taken_counts
    taken =
        let r = least_within (counts_cost P s) (all_left P) c e in
        record {
          counts = left (taken_counts P s) r.0;
          reached = r.1;
          bound = λ m d l g. rw e at (taken_below m d l g);
          first = λ m l g. least_first (counts_cost P s) (all_left P) m c e (within m l) g;
        }

    -- each job goes to one cutter
    pub is_split : IsSplit P (first_order P s) (second_order P s)
    unfolding first_order second_order
    is_split = counts_split (taken_counts P s) c taken.reached

    -- neither cutter has a forbidden succession
    pub split_permitted : SplitPermitted P s (first_order P s) (second_order P s)
    unfolding first_order second_order
    split_permitted = counts_permitted (taken_counts P s) c taken.reached

    -- as many to the first as its counts say
    pub first_long : length (first_order P s) ≡ sum (taken_counts P s)
    unfolding first_order
    first_long = counts_long (taken_counts P s) c taken.reached taken.counts

    -- the two orders cost, by their own finishes, what is said
    pub split_costs : split_cost P s (first_order P s) (second_order P s) ≡ c
    unfolding first_order second_order
    split_costs = counts_costs (taken_counts P s) c taken.reached

    -- 02's "no other split, in any order on either cutter, costing less"
    pub split_least : (o₁ o₂ : List ℕ) → IsSplit P o₁ o₂ → SplitPermitted P s o₁ o₂ → c ≤ split_cost P s o₁ o₂
    split_least o₁ o₂ i g =
        let t = split_together P o₁ o₂ i in
        let (d, q, l) = counts_least o₁ o₂ t g in
        omega (arith, l, taken.bound (theirs o₁ o₂ t) d (theirs_left o₁ o₂ t) q)

  -- 17's "exactly": none is taken where no split is permitted, and only there
  pub no_split_lem : (taken_cost P s ≡ none) ↔ ((o₁ o₂ : List ℕ) → IsSplit P o₁ o₂ → SplitPermitted P s o₁ o₂ → ⊥)
  no_split_lem = (to, of (taken_cost P s) refl)
    where
      to : taken_cost P s ≡ none → (o₁ o₂ : List ℕ) → IsSplit P o₁ o₂ → SplitPermitted P s o₁ o₂ → ⊥
      to e o₁ o₂ i g =
          let t = split_together P o₁ o₂ i in
          let (d, q, l) = counts_least o₁ o₂ t g in
          rw e at (taken_below (theirs o₁ o₂ t) d (theirs_left o₁ o₂ t) q)

      of : (r : Option ℕ) → taken_cost P s ≡ r → ((o₁ o₂ : List ℕ) → IsSplit P o₁ o₂ → SplitPermitted P s o₁ o₂ → ⊥) → taken_cost P s ≡ none
      of none e h = e
      of (some c) e h = absurd (h (first_order P s) (second_order P s) (is_split c e) (split_permitted c e))

  module _ (free : NoneForbidden P) (l : P.start ≤ P.N) (h : s ≤ P.N) where
    -- where nothing is forbidden each split is permitted, as in S-1 ..
    pub split_free : (o₁ o₂ : List ℕ) → IsSplit P o₁ o₂ → SplitPermitted P s o₁ o₂
    split_free o₁ o₂ i =
        let t = split_together P o₁ o₂ i in
        record {
          first = listed_free P P.start o₁ proper (λ z c. among P o₁ o₂ t z (omega arith)) free l;
          second = listed_free P s o₂ proper (λ z c. among P o₁ o₂ t z (omega arith)) free h;
        }

    -- .. and so there always is one, since all jobs can go to the second cutter
    pub always_split : taken_cost P s ≢ none
    always_split e = no_split_lem.0 e [] (upto (T P)) (in_turn_lem P) (split_free [] (upto (T P)) (in_turn_lem P))

  -- what 02's sentence says is one split
  pub taken_one : (m n : List ℕ) (c d : ℕ) → Taken P s m c → Taken P s n d → (m ≡ n) × (c ≡ d)
  taken_one m n c d u v =
      let e : c ≡ d = omega (arith, u.bound n d v.counts v.reached, v.bound m c u.counts u.reached) in
      (precedes_one m n (u.first n v.counts (v.reached ∙ ap some (sym e))) (v.first m u.counts (u.reached ∙ ap some e)), e)
