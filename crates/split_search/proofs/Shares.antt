-- Both cutters' orders: what is followed from the split taken.
-- Assumes nothing.
use mathlib.Core.List.{List}
use mathlib.Core.Logic.{◌≢◌}
use mathlib.Core.Option.{Option, none, some}
use mathlib.Core.Path.{◌≡◌, refl, sym, ap, ◌∙◌}
use Prim.Native.Nat.{ℕ, ◌-◌, ◌≤◌, ◌<◌}
use native.Mathlib.Omega.{arith}
use lib.ListN.{length, take}
use borrow.Author.Tests.{ne_eqb}
use Rattle.std.specs.Prelude.{Some}
use Rattle.fields.specs.Lists.{filled}
use Rattle.units.specs.declared.Cost.{Cost}
use Rattle.units.specs.Costs.{cost_in, number_of}
use Rattle.queue.specs.declared.Queue.{Queue}
use Rattle.sequencing.specs.Lists.{at, sum}
use Rattle.sequencing.specs.Problem.{Problem, AllPermitted}
use Rattle.sequencing.specs.Least.{arg_least}
use Rattle.sequencing.specs.Recursion.{cost_to_go, choice}
use Rattle.sequencing.specs.Following.{by_hand_in_upto}
use Rattle.sequencing.specs.Entries.{k_at, block}
use Rattle.sequencing.proofs.Entries.{left_digits}
use Rattle.sequencing.proofs.Equations.{cost_some_left}
use Rattle.sequencing.proofs.Options.{none_some}
use Rattle.sequencing.proofs.Recursion.{walk_by_lem}
use Rattle.problem.specs.OfQueue.{problem}
use Rattle.problem.proofs.Rule.{proper}
use Rattle.splitting.specs.Taken.{first_order, second_order}
use Rattle.splitting.proofs.Covered.{covered}
use Rattle.splitting.proofs.ByIndex.{taken_looks, first_followed, second_followed}
use Rattle.jobs_left.specs.declared.JobsLeft.{JobsLeft}
use Rattle.jobs_left.specs.declared.Kind.{Kind}
use Rattle.jobs_left.specs.Kinds.{weights_of}
use Rattle.jobs_left.specs.Steps.{Summed, LeftAt, LeftOf}
use Rattle.jobs_left.proofs.LeftAt.{left_at, summed_left}
use Rattle.layout.proofs.Prepared.{known}
use Rattle.next_states.specs.declared.Least.{Least}
use Rattle.next_states.specs.NextStates.{least_answer}
use Rattle.filling.proofs.Counting.{kinds_of}
use Rattle.solver.specs.Looking.{look}
use Rattle.solver.specs.Following.{Share, Followed}
use Rattle.solver.proofs.Walking.{some_cost, takes_next}
use Rattle.split_search.specs.declared.Bench.{Bench}
use Rattle.split_search.specs.declared.Split.{Split}
use Rattle.split_search.specs.Searching.{Best}
use Rattle.split_search.specs.Shares.{order_from, ShareFrom}
use Rattle.split_search.proofs.Rest.{all_at}

-- ---- one cutter's share

kind_is : (unit : ℕ → Cost) (x : ℕ) (c : Option ℕ) {r : Least} → Some r ≡ least_answer unit x c → r.kind ≡ x
kind_is unit x none e = cc
kind_is unit x (some c) {r} e = let is : r ≡ record { cost = unit c; kind = x } = cc in ap (λ (z : Least). z.kind) is

module _ {q : Queue} {k : JobsLeft} {upto : List ℕ} {L : ℕ} (s : ShareFrom q k upto L) {r : Least} (f : Some r ≡ look q L (k_at (problem q) k.index)) where
  abbrev P : Problem
  P = problem q

  abbrev n : List ℕ
  n = k_at P k.index

  next_is : 0 < sum n → r.kind ≡ arg_least (choice P L n) q.kinds
  next_is h = kind_is (cost_in q.goal) _ (cost_to_go P L n) f ∙ rw (ne_eqb (sum n) 0 (λ z. omega arith))

  pub as_share : Share q k upto r.kind
  as_share = record {
    left_at = s.left_of.left_at;
    within = s.within;
    takes = λ some_left.
        let (c, e) = some_cost (cost_to_go P L n) s.found in
        rw (next_is some_left) (takes_next P L n c (sym (cost_some_left P L n some_left) ∙ e));
  }

  pub share_followed : {order : List ℕ} → Followed q upto k.index r.kind order → order ≡ filled 60 (order_from P upto L n)
  share_followed e = e ∙ ap (λ xs. filled 60 (by_hand_in_upto P upto n xs)) (sym (walk_by_lem P (sum n) L n r.kind next_is))

-- ---- the split taken

module _ (b : Bench) {r : Split} (t : Best b.filled.setup.now.queue b.second r) where
  abbrev Q : Problem
  Q = problem b.filled.setup.now.queue

  abbrev second : ℕ
  second = b.second

  permitted : AllPermitted Q
  permitted = covered b.filled.setup.now.queue b.filled.setup.now.valid (rw b.covered tt)

  abbrev i : ℕ
  i = r.first.index

  -- no more of a kind than there are
  few : {left : List ℕ} {n : ℕ} → LeftAt Q left n → (j : ℕ) → 1 ≤ j → j ≤ Q.N → at left j ≤ at b.all.left j
  few {left} {n} w j a u = omega (arith, left_at w j a u, (left_digits Q n).within j, all_at b j a u)

  -- both looks find something
  found : (cost_to_go Q Q.start (k_at Q i) ≢ none) × (cost_to_go Q second (k_at Q (block Q - 1 - i)) ≢ none)
  found =
      let (x, y, f, h, _) = taken_looks Q permitted (proper b.filled.setup.now.queue b.filled.setup.now.valid) second i (number_of r.cost) t.left_at.within t.counts_are t.cost_is in
      ((λ n. none_some x (sym n ∙ f)), (λ n. none_some y (sym n ∙ h)))

  -- the first cutter's counts, weighed anew
  module _ {kinds : List Kind} (are : kinds ≡ kinds_of b.filled.setup.now.queue) {own : JobsLeft} (left_is : own.left ≡ r.first.left) (index_is : own.index ≡ i)
      (summed : Summed (weights_of kinds) (take (length kinds) r.first.left) own.jobs own.weight) where
    pub own_left : LeftOf Q own
    own_left = summed_left {kinds = kinds} (rw are (known b.filled.setup.now.queue)) own (rw (left_is, index_is) t.left_at) (rw left_is summed)

    pub first_share_lem : ShareFrom b.filled.setup.now.queue own r.first.left Q.start
    first_share_lem = record {
      left_of = own_left;
      within = λ j a u. (rw left_is (omega arith), omega (arith, few t.left_at j a u, all_at b j a u));
      row_in = b.filled.setup.now.valid.start;
      found = rw index_is found.0;
    }

  pub first_order_is : order_from Q r.first.left Q.start (k_at Q i) ≡ first_order Q second
  first_order_is =
      let n = k_at Q i in
      let x = arg_least (choice Q Q.start n) Q.N in
      ap (by_hand_in_upto Q r.first.left n) (walk_by_lem Q (sum n) Q.start n x (λ _. refl))
      ∙ first_followed Q permitted (proper b.filled.setup.now.queue b.filled.setup.now.valid) second i (number_of r.cost) t.left_at.within t.counts_are t.cost_is
      r.first.left (left_at t.left_at) x (λ _. refl)

  module _ (rest : JobsLeft) (w : LeftOf Q rest) (mirrored : rest.index ≡ block Q - 1 - i) where
    pub second_share_lem : ShareFrom b.filled.setup.now.queue rest b.all.left second
    second_share_lem = record {
      left_of = w;
      within = λ j a u. (few w.left_at j a u, omega (arith, all_at b j a u));
      row_in = b.second_in;
      found = rw mirrored found.1;
    }

    pub second_order_is : order_from Q b.all.left second (k_at Q rest.index) ≡ second_order Q second
    second_order_is =
        let n = k_at Q (block Q - 1 - i) in
        let x = arg_least (choice Q second n) Q.N in
        rw mirrored
        (ap (by_hand_in_upto Q b.all.left n) (walk_by_lem Q (sum n) second n x (λ _. refl))
        ∙ second_followed Q permitted (proper b.filled.setup.now.queue b.filled.setup.now.valid) second i (number_of r.cost) t.left_at.within t.counts_are t.cost_is
        b.all.left (all_at b) x (λ _. refl))
