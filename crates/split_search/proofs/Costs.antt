-- The cost of a split by two looks: what both find, none where either finds none, or where the first alone is more than what is held.
-- Assumes nothing.
use mathlib.Core.Bool.{Bool, true, false, not}
use mathlib.Core.Logic.{inl, inr}
use mathlib.Core.Option.{Option, none, some}
use mathlib.Core.Path.{◌≡◌, refl, sym, ap, ◌∙◌}
use Prim.Native.Nat.{ℕ, ◌+◌, ◌-◌, ◌^◌, ◌≤◌, ◌<◌}
use native.Mathlib.Nat.{eq-zero-or-pos}
use native.Mathlib.Omega.{arith}
use lib.Dec.{ltb}
use Rattle.std.specs.Prelude.{Some, None, Option as Answer}
use Rattle.units.specs.declared.Cost.{Cost}
use Rattle.units.specs.Costs.{cost_in, number_of, in_seconds, together}
use Rattle.units.proofs.Costs.{number_is, one_unit, together_is}
use Rattle.queue.specs.declared.Queue.{Queue}
use Rattle.queue.specs.Record.{Valid}
use Rattle.sequencing.specs.Lists.{sum}
use Rattle.sequencing.specs.Least.{only, arg_least}
use Rattle.sequencing.specs.Problem.{Problem}
use Rattle.sequencing.specs.Recursion.{to_go, cost_to_go, choice}
use Rattle.sequencing.specs.Entries.{k_at, block}
use Rattle.sequencing.proofs.Entries.{left_digits}
use Rattle.sequencing.proofs.Equations.{cost_some_left}
use Rattle.sequencing.proofs.Least.{smallest}
use Rattle.problem.specs.Bounds.{value_limit}
use Rattle.problem.specs.OfQueue.{problem}
use Rattle.problem.proofs.Bounds.{choice_limit, limit_fits}
use Rattle.splitting.specs.Taken.{both, counts_cost}
use Rattle.splitting.proofs.ByIndex.{looks_lem}
use Rattle.splitting.proofs.Covered.{covered}
use Rattle.jobs_left.specs.declared.JobsLeft.{JobsLeft}
use Rattle.jobs_left.specs.Steps.{LeftOf}
use Rattle.split_search.specs.declared.Bench.{Bench}
use Rattle.split_search.specs.declared.Split.{Split}
use Rattle.split_search.specs.Searching.{cost_answer, exceeds, cost_upto}

-- no look finds more than the number
look_limit : (q : Queue) → Valid q → (L i c : ℕ) → L ≤ q.kinds → cost_to_go (problem q) L (k_at (problem q) i) ≡ some c → c ≤ value_limit
unfolding to_go
look_limit q v L i c u e =
    let P = problem q in
    let k = k_at P i in
    elim (eq-zero-or-pos (sum k)) [
      | inl z ↦ (let zero-cost : some 0 ≡ some c = rw z at e in let is : 0 ≡ c = cc in omega arith)
      | inr h ↦ (let m = smallest (choice P L k) P.N c (sym (cost_some_left P L k h) ∙ e) in
          choice_limit q v L k (arg_least (choice P L k) P.N) c u (left_digits P i) m.reached)
    ]

-- ---- costs as they are answered

pub answer_none : (goal : ℕ) (r : Option ℕ) → None ≡ cost_answer goal r → r ≡ none
answer_none goal none e = refl
answer_none goal (some c) e = cc

pub answer_some : (goal : ℕ) (r : Option ℕ) {x : Cost} → Some x ≡ cost_answer goal r → (c : ℕ) × (r ≡ some c) × (x ≡ cost_in goal c)
answer_some goal none e = cc
answer_some goal (some c) e = (c, refl, cc)

only_none : (t : Bool) → only t none ≡ none
only_none true = refl
only_none false = refl

-- ---- a split held that the first cutter alone does not exceed, or none

pub spared_none : (r : Option ℕ) {held : Answer Split} → held ≡ None → exceeds r held ≡ false
spared_none none e = refl
spared_none (some c) e = rw e

pub spared : (goal : ℕ) {x : Cost} {held : Answer Split} {h : Split} (r : Option ℕ) → Some x ≡ cost_answer goal r → held ≡ Some h
    → ltb (number_of h.cost) (number_of x) ≡ false → exceeds r held ≡ false
spared goal {x} {held} {h} r f e less = let (c, g, x-is) = answer_some goal r f in rw (g, e, ← (number_is goal c x-is)) less

-- ---- of one split

module _ (b : Bench) {k : JobsLeft} (w : LeftOf (problem b.filled.setup.now.queue) k) where
  abbrev q : Queue
  q = b.filled.setup.now.queue

  abbrev P : Problem
  P = problem q

  abbrev pub A : Option ℕ
  A = cost_to_go P q.start (k_at P k.index)

  abbrev pub B : Option ℕ
  B = cost_to_go P b.second (k_at P (block P - 1 - k.index))

  pub cost_is : counts_cost P b.second (k_at P k.index) ≡ both q.goal A B
  cost_is = looks_lem P k.index w.left_at.within (covered q b.filled.setup.now.valid (rw b.covered tt)) b.second

  module _ (held : Answer Split) where
    abbrev Cost-upto : Answer Cost
    Cost-upto = cost_answer q.goal (cost_upto P b.second held k.index)

    -- the first cutter has no order
    pub no_first : None ≡ cost_answer q.goal A → None ≡ Cost-upto
    no_first e = rw (cost_is, answer_none q.goal A e)

    module _ {x : Cost} (first : Some x ≡ cost_answer q.goal A) where
      -- or costs more alone than the split held
      pub dearer : {r : Split} → held ≡ Some r → ltb (number_of r.cost) (number_of x) ≡ true → None ≡ Cost-upto
      dearer {r} e less =
          let (a, f, x-is) = answer_some q.goal A first in
          let exceeded : exceeds A held ≡ true = rw (f, e, ← (number_is q.goal a x-is)) less in
          rw exceeded

      -- the split held is in the same unit
      pub one_unit_with : (r : Split) → r.cost ≡ cost_in q.goal (number_of r.cost) → in_seconds r.cost ≡ in_seconds x
      one_unit_with r e = let (a, f, x-is) = answer_some q.goal A first in one_unit q.goal (number_of r.cost) e a x-is

      module _ {i : ℕ} (i-is : i ≡ block P - 1 - k.index) where
        -- the second has none
        pub no_second : None ≡ cost_answer q.goal (cost_to_go P b.second (k_at P i)) → None ≡ Cost-upto
        no_second e =
            let (a, f, _) = answer_some q.goal A first in
            rw (cost_is, f, answer_none q.goal B (rw i-is at e), only_none (not (exceeds (some a) held)))

        module _ {y : Cost} (second : Some y ≡ cost_answer q.goal (cost_to_go P b.second (k_at P i))) where
          -- both costs can be added
          pub may_add : (in_seconds x ≡ in_seconds y) × (number_of x + number_of y < 2 ^ 64)
          may_add =
              let v = b.filled.setup.now.valid in
              let (a, f, x-is) = answer_some q.goal A first in
              let (d, g, y-is) = answer_some q.goal B (rw i-is at second) in (
                one_unit q.goal a x-is d y-is,
                omega (
                  arith,
                  number_is q.goal a x-is,
                  number_is q.goal d y-is,
                  look_limit q v q.start k.index a v.start f,
                  look_limit q v b.second (block P - 1 - k.index) d b.second_in g,
                  limit_fits,
                ),
              )

          -- both have one
          pub both_cost : exceeds A held ≡ false → Some (together x y) ≡ Cost-upto
          both_cost less =
              let (a, f, x-is) = answer_some q.goal A first in
              let (d, g, y-is) = answer_some q.goal B (rw i-is at second) in
              rw (less, cost_is, f, g) (ap Some (together_is q.goal a x-is d y-is))
