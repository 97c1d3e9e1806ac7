-- The search: after each turn it holds the best of the splits passed.
-- Assumes nothing.
use mathlib.Core.Bool.{Bool, true, false, not, ◌&&◌, ◌||◌}
use mathlib.Core.List.{List}
use mathlib.Core.Logic.{◌⊎◌, inl, inr}
use mathlib.Core.Option.{Option, none, some}
use mathlib.Core.Path.{◌≡◌, refl, sym, ap, ◌∙◌}
use mathlib.Mathlib.Data.Bool.Basic.{dichotomy}
use Prim.Native.Nat.{ℕ, suc, ◌≤◌, ◌<◌}
use native.Mathlib.Omega.{arith}
use borrow.Author.Tests.{ltb-true, ltb-false}
use lib.Dec.{ltb, eqb}
use Rattle.std.specs.Prelude.{Some, None, Option as Answer, IfSome}
use Rattle.units.specs.declared.Cost.{Cost}
use Rattle.units.specs.Costs.{cost_in, number_of, in_seconds}
use Rattle.units.proofs.Costs.{number_is, one_unit}
use Rattle.queue.specs.declared.Queue.{Queue}
use Rattle.sequencing.specs.Lists.{sum}
use Rattle.sequencing.specs.Problem.{Problem}
use Rattle.sequencing.specs.States.{all_left}
use Rattle.sequencing.specs.Entries.{digits, k_at, block}
use Rattle.sequencing.specs.Ties.{Precedes}
use Rattle.sequencing.proofs.Options.{none_some, some_eq, only_some}
use Rattle.sequencing.proofs.Radix.{digits_length}
use Rattle.problem.specs.OfQueue.{problem}
use Rattle.problem.proofs.Rule.{proper}
use Rattle.splitting.specs.Splits.{of_both}
use Rattle.splitting.specs.Taken.{counts_cost}
use Rattle.splitting.specs.Scan.{is_before, NoneHeld, Held}
use Rattle.splitting.proofs.Best.{both_some}
use Rattle.splitting.proofs.Precedes.{before_cases}
use Rattle.splitting.proofs.Scan.{none_more, held_first, held_new, held_on, none_taken, held_taken}
use Rattle.jobs_left.specs.declared.JobsLeft.{JobsLeft}
use Rattle.jobs_left.specs.Steps.{LeftAt, LeftOf}
use Rattle.split_search.specs.declared.Bench.{Bench}
use Rattle.split_search.specs.declared.Split.{Split}
use Rattle.split_search.specs.Searching.{cost_answer, exceeds, cost_upto, is_better, IsBest}
use Rattle.split_search.proofs.Before.{before_take}
use Rattle.split_search.proofs.Costs.{answer_none, answer_some, spared_none, A, B, cost_is}

-- whichever goal, both cost no less than the first alone
both_more : (goal a b : ℕ) → a ≤ of_both goal a b
both_more goal a b = elim (dichotomy (eqb goal 1)) [ inr e ↦ rw e (omega arith) | inl e ↦ rw e (omega arith) ]

-- counts that have an index each are compared as those of the index
before_left : {P : Problem} (k l : JobsLeft) → LeftAt P k.left k.index → LeftAt P l.left l.index
    → is_before k.left l.left ≡ is_before (k_at P k.index) (k_at P l.index)
before_left {P} k l v w = before_take P.N k.left l.left (v.long ∙ sym w.long) (λ j h. v.past (suc j) (omega arith) ∙ sym (w.past (suc j) (omega arith))) ∙ rw (v.here, w.here)

-- ---- less, or equal and before

decided : (m n : ℕ) (t : Bool) → ltb m n || (not (ltb n m) && t) ≡ true → (m < n) ⊎ ((m ≡ n) × (t ≡ true))
decided m n t e = elim (dichotomy (ltb m n)) [
  | inr l ↦ inl (ltb-true m n l)
  | inl g ↦ (elim (dichotomy (ltb n m)) [
    | inr l ↦ (let h = rw (g, l) at e in cc)
    | inl g' ↦ (let h = rw (g, g') at e in let low = ltb-false m n g in let high = ltb-false n m g' in inr (omega arith, h))
  ])
]

refused : (m n : ℕ) (t : Bool) → ltb m n || (not (ltb n m) && t) ≡ false → (n < m) ⊎ ((n ≡ m) × (t ≡ false))
refused m n t e = elim (dichotomy (ltb m n)) [
  | inr l ↦ (let h = rw l at e in cc)
  | inl g ↦ (elim (dichotomy (ltb n m)) [
    | inr l ↦ inl (ltb-true n m l)
    | inl g' ↦ (let h = rw (g, g') at e in let low = ltb-false m n g in let high = ltb-false n m g' in inr (omega arith, h))
  ])
]

-- the first cutter alone costs more than the split held
exceeded : (r : Option ℕ) (h : Split) → exceeds r (Some h) ≡ true → (a : ℕ) × (r ≡ some a) × (number_of h.cost < a)
exceeded none h e = cc
exceeded (some a) h e = (a, refl, ltb-true (number_of h.cost) a e)

-- a split held: its counts are the first of the least cost of those whose index is below i
pub record HeldSplit (q : Queue) (second i : ℕ) (r : Split) : Type 0 where
  pub held : Held (λ j. counts_cost (problem q) second (k_at (problem q) j)) (all_left (problem q)) i r.first.index (number_of r.cost)
  pub in_unit : r.cost ≡ cost_in q.goal (number_of r.cost)
  pub left_of : LeftOf (problem q) r.first

-- or none, as none of them has a cost
abbrev pub Holds : (q : Queue) (second i : ℕ) → Answer Split → Type 0
Holds q second i None = NoneHeld (λ j. counts_cost (problem q) second (k_at (problem q) j)) i
Holds q second i (Some r) = HeldSplit q second i r

-- it is in the goal's unit
pub in_unit_held : (q : Queue) (second i : ℕ) (best : Answer Split) → Holds q second i best → IfSome best (λ r. r.cost ≡ cost_in q.goal (number_of r.cost))
in_unit_held q second i None h = tt
in_unit_held q second i (Some r) h = h.in_unit

-- at its end: the split taken
pub held_done : (b : Bench) (best : Answer Split) → Holds b.filled.setup.now.queue b.second (block (problem b.filled.setup.now.queue)) best
    → IsBest b.filled.setup.now.queue b.second best
held_done b None h = let q = b.filled.setup.now.queue in none_taken (problem q) (proper q b.filled.setup.now.valid) b.second h
held_done b (Some r) h =
    let q = b.filled.setup.now.queue in
    let t = held_taken (problem q) (proper q b.filled.setup.now.valid) b.second r.first.index (number_of r.cost) h.held in
    record { cost_is = t.0; in_unit = h.in_unit; counts_are = t.1; left_at = h.left_of.left_at; jobs_are = h.left_of.jobs_are ∙ ap sum t.1 }

-- ---- a turn

module _ (b : Bench) {k : JobsLeft} (w : LeftOf (problem b.filled.setup.now.queue) k) where
  abbrev q : Queue
  q = b.filled.setup.now.queue

  abbrev P : Problem
  P = problem q

  abbrev s : ℕ
  s = b.second

  abbrev f : ℕ → Option ℕ
  f = λ j. counts_cost P s (k_at P j)

  abbrev cs : List ℕ
  cs = all_left P

  -- passed over: there is no such cost, or the first cutter alone costs more than the split held
  pub turn_over : (best : Answer Split) → Holds q s k.index best → None ≡ cost_answer q.goal (cost_upto P s best k.index) → Holds q s (suc k.index) best
  turn_over None h e =
      let u = answer_none q.goal (cost_upto P s None k.index) e in
      none_more f cs k.index h (rw (spared_none (A b w) refl) at u)
  turn_over (Some r) h e =
      let u = answer_none q.goal (cost_upto P s (Some r) k.index) e in
      record {
        held = held_on f cs k.index r.first.index (number_of r.cost) h.held (λ d g. elim (dichotomy (exceeds (A b w) (Some r))) [
          | inl t ↦ (let none-there = rw t at u in absurd (none_some d (sym none-there ∙ g)))
          | inr t ↦ (
              let (a, is, more) = exceeded (A b w) r t in
              let (a', b', is', _, sums) = both_some q.goal (A b w) (B b w) d (sym (cost_is b w) ∙ g) in
              let same = some_eq a a' (sym is ∙ is') in
              inl (omega (arith, both_more q.goal a' b', sums)))
        ]);
        in_unit = h.in_unit;
        left_of = h.left_of;
      }

  -- counts of a split held, compared with these
  precedes : (r : Split) → LeftOf P r.first
      → (is_before k.left r.first.left ≡ true → Precedes (digits cs k.index) (digits cs r.first.index))
      × (is_before k.left r.first.left ≡ false → Precedes (digits cs r.first.index) (digits cs k.index))
  precedes r v =
      let same = before_left k r.first w.left_at v.left_at in
      elim (before_cases (digits cs k.index) (digits cs r.first.index) (digits_length cs k.index ∙ sym (digits_length cs r.first.index))) [
        | inl t ↦ ((λ _. t.1), (λ e. let z : true ≡ false = cc in cc))
        | inr t ↦ ((λ e. let z : true ≡ false = cc in cc), (λ _. t.1))
      ]

  module _ {x : Cost} where
    -- the cost of both cutters
    told : (best : Answer Split) → Some x ≡ cost_answer q.goal (cost_upto P s best k.index) → (f k.index ≡ some (number_of x)) × (x ≡ cost_in q.goal (number_of x))
    told best e =
        let (d, u, x-is) = answer_some q.goal (cost_upto P s best k.index) e in
        let n = number_is q.goal d x-is in
        rw n ((only_some (not (exceeds (A b w) best)) (f k.index) d u).1, x-is)

    -- which is in the unit of the split held
    pub may_compare : (best : Answer Split) → Holds q s k.index best → Some x ≡ cost_answer q.goal (cost_upto P s best k.index)
        → IfSome best (λ r. in_seconds r.cost ≡ in_seconds x)
    may_compare None h e = tt
    may_compare (Some r) h e = one_unit q.goal (number_of r.cost) h.in_unit (number_of x) (told (Some r) e).1

    -- better than the split held, if one is
    pub turn_better : (best : Answer Split) → Holds q s k.index best → Some x ≡ cost_answer q.goal (cost_upto P s best k.index) → is_better best x k.left ≡ true
        → Holds q s (suc k.index) (Some (record { cost = x; first = k }))
    turn_better None h e better =
        let (g, unit) = told None e in
        record { held = held_first f cs k.index h g; in_unit = unit; left_of = w }
    turn_better (Some r) h e better =
        let (g, unit) = told (Some r) e in
        record {
          held = held_new f cs k.index r.first.index (number_of r.cost) h.held g (elim (decided (number_of x) (number_of r.cost) (is_before k.left r.first.left) better) [
            | inl t ↦ inl t
            | inr t ↦ inr (t.0, (precedes r h.left_of).0 t.1)
          ]);
          in_unit = unit;
          left_of = w;
        }

    -- or not
    pub turn_worse : (best : Answer Split) → Holds q s k.index best → Some x ≡ cost_answer q.goal (cost_upto P s best k.index) → is_better best x k.left ≡ false
        → Holds q s (suc k.index) best
    turn_worse None h e worse = cc
    turn_worse (Some r) h e worse =
        let (g, unit) = told (Some r) e in
        record {
          held = held_on f cs k.index r.first.index (number_of r.cost) h.held (λ d g'.
              let same = some_eq d (number_of x) (sym g' ∙ g) in
              elim (refused (number_of x) (number_of r.cost) (is_before k.left r.first.left) worse) [
                | inl t ↦ inl (omega arith)
                | inr t ↦ inr (t.0 ∙ sym same, (precedes r h.left_of).1 t.1)
              ]);
          in_unit = h.in_unit;
          left_of = h.left_of;
        }
