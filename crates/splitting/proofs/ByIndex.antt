-- Counts by their index, as a loop over the table's order has them: the others stand at the index mirrored, the cost is made of two looks, and what
-- is followed from the index of the split taken are its two orders.
-- Assumes nothing.
use mathlib.Core.List.{List, [], ◌∷◌}
use mathlib.Core.Option.{some}
use mathlib.Core.Path.{◌≡◌, refl, sym, ap, ◌∙◌}
use Prim.Native.Nat.{ℕ, zero, suc, ◌+◌, ◌-◌, ◌≤◌, ◌<◌}
use native.Mathlib.Nat.{mul-add, mul-suc}
use native.Mathlib.Omega.{arith}
use lib.ListN.{length}
use Rattle.sequencing.specs.Lists.{at, sum}
use Rattle.sequencing.specs.Problem.{Problem, Proper, AllPermitted}
use Rattle.sequencing.specs.States.{K, all_left, IsLeft}
use Rattle.sequencing.specs.Least.{arg_least}
use Rattle.sequencing.specs.Recursion.{cost_to_go, choice}
use Rattle.sequencing.specs.Following.{walk_by, by_hand_in_upto}
use Rattle.sequencing.specs.Entries.{size, index, digits, k_at, block}
use Rattle.sequencing.proofs.AllJobs.{at_all, length_all, below_all}
use Rattle.sequencing.proofs.Radix.{digits_index, index_digits}
use Rattle.sequencing.proofs.Entries.{left_digits}
use Rattle.splitting.specs.Splits.{of_both}
use Rattle.splitting.specs.Taken.{both, counts_cost, taken_cost, taken_counts, first_order, second_order}
use Rattle.splitting.specs.Scan.{others}
use Rattle.splitting.proofs.Counts.{at_others, others_left}
use Rattle.splitting.proofs.Best.{taken}
use Rattle.splitting.proofs.Table.{looked_up, looks_found, first_order_lem, second_order_lem}

-- ---- any counts up to cs

-- two that add up to cs
record Rest (cs k l : List ℕ) : Type 0 where
  long : length k ≡ length cs
  long' : length l ≡ length cs
  each : (j : ℕ) → 1 ≤ j → j ≤ length cs → at k j + at l j ≡ at cs j

rest_after : (c a b : ℕ) (cs k l : List ℕ) → Rest (c ∷ cs) (a ∷ k) (b ∷ l) → Rest cs k l
rest_after c a b cs k l r = record {
  long = omega (arith, r.long);
  long' = omega (arith, r.long');
  each = elim [ zero ↦ (λ p q. absurd (omega arith)) | suc j ↦ (λ p q. r.each (suc (suc j)) (omega arith) (omega arith)) ];
}

-- their indices add up to the last, and their jobs to all
rest_sums : (cs k l : List ℕ) → Rest cs k l → (suc (index cs k + index cs l) ≡ size cs) × (sum k + sum l ≡ sum cs)
unfolding index size sum
rest_sums [] [] [] r = (refl, refl)
rest_sums [] [] (b ∷ l) r = absurd (omega (arith, r.long'))
rest_sums [] (a ∷ k) l r = absurd (omega (arith, r.long))
rest_sums (c ∷ cs) [] l r = absurd (omega (arith, r.long))
rest_sums (c ∷ cs) (a ∷ k) [] r = absurd (omega (arith, r.long'))
rest_sums (c ∷ cs) (a ∷ k) (b ∷ l) r =
    let s = rest_sums cs k l (rest_after c a b cs k l r) in
    let first = r.each 1 (omega arith) (omega arith) in
    (rw (← s.0, mul-suc, mul-add) (omega (arith, first)), omega (arith, first, s.1))

-- ---- the counts of a queue

module _ (P : Problem) where
  module _ (i : ℕ) (in_block : i < block P) where
    abbrev n : List ℕ
    n = k_at P i

    abbrev l : IsLeft P n
    l = left_digits P i

    long : length n ≡ length (all_left P)
    long = l.long ∙ sym (length_all P)

    own_index : index (all_left P) n ≡ i
    own_index = index_digits (all_left P) i in_block

    rest : Rest (all_left P) n (others P n)
    rest = record {
      long = long;
      long' = (others_left P n l).long ∙ sym (length_all P);
      each = λ j a b. let u : j ≤ P.N = omega (arith, length_all P) in omega (arith, at_all P j a u, at_others P n l j a u, l.within j);
    }

    -- the others stand at the index mirrored
    pub others_at : k_at P (block P - 1 - i) ≡ others P n
    others_at =
        let o = others_left P n l in
        let e : block P - 1 - i ≡ index (all_left P) (others P n) = omega (arith, (rest_sums (all_left P) n (others P n) rest).0, own_index) in
        ap (digits (all_left P)) e ∙ digits_index (all_left P) (others P n) rest.long' (below_all P (others P n) o)

    -- all jobs are on one of the cutters
    pub sum_others : sum (k_at P i) + sum (k_at P (block P - 1 - i)) ≡ sum (all_left P)
    sum_others = rw others_at (rest_sums (all_left P) n (others P n) rest).1

    -- the cost, by two looks
    pub looks_lem : AllPermitted P → (s : ℕ)
        → counts_cost P s (k_at P i) ≡ both P.goal (cost_to_go P P.start (k_at P i)) (cost_to_go P s (k_at P (block P - 1 - i)))
    looks_lem permitted s = rw others_at (looked_up P permitted n l s)

  -- ---- the split taken

  module _ (permitted : AllPermitted P) (proper : Proper P) (s i c : ℕ)
      (in_block : i < block P) (counts : k_at P i ≡ taken_counts P s) (e : taken_cost P s ≡ some c) where
    reached : counts_cost P s (k_at P i) ≡ some c
    reached = ap (counts_cost P s) counts ∙ (taken P proper s c e).reached

    -- both looks find something
    pub taken_looks : (a b : ℕ) × (cost_to_go P P.start (k_at P i) ≡ some a) × (cost_to_go P s (k_at P (block P - 1 - i)) ≡ some b)
        × (c ≡ of_both P.goal a b)
    taken_looks = rw (others_at i in_block) (looks_found P permitted (k_at P i) (left_digits P i) s c reached)

    -- the first cutter's order: from its counts, each kind up to that count
    pub first_followed : (m : List ℕ) → ((x : ℕ) → 1 ≤ x → x ≤ P.N → at m x ≡ at (k_at P i) x)
        → (y : ℕ) → (0 < sum (k_at P i) → y ≡ arg_least (choice P P.start (k_at P i)) P.N)
        → by_hand_in_upto P m (k_at P i) (walk_by P (sum (k_at P i)) y (k_at P i)) ≡ first_order P s
    unfolding first_order
    first_followed m upto y h = rw (← counts) (first_order_lem P permitted (k_at P i) (left_digits P i) s c reached m upto y h)

    -- the second's: from the index mirrored, each kind up to its last job
    pub second_followed : (m : List ℕ) → ((x : ℕ) → 1 ≤ x → x ≤ P.N → at m x ≡ K P x)
        → (y : ℕ) → (0 < sum (k_at P (block P - 1 - i)) → y ≡ arg_least (choice P s (k_at P (block P - 1 - i))) P.N)
        → by_hand_in_upto P m (k_at P (block P - 1 - i)) (walk_by P (sum (k_at P (block P - 1 - i))) y (k_at P (block P - 1 - i))) ≡ second_order P s
    unfolding second_order
    second_followed m upto y h =
        let e' = others_at i in_block in
        rw (e', ← counts) (second_order_lem P permitted (k_at P i) (left_digits P i) s c reached m upto y (rw e' at h))
