-- What the message's own table says of a split: where each job is permitted at each place, a look from a start's row with k left is the cost of any
-- share with k jobs, and the walk from there is its order.
-- Assumes nothing.
use mathlib.Core.List.{List, [], ◌∷◌, map}
use mathlib.Core.Option.{some}
use mathlib.Core.Path.{◌≡◌, refl, sym, ap, ap₂, ◌∙◌}
use Prim.Native.Nat.{ℕ, ◌-◌, ◌≤◌, ◌<◌}
use native.Mathlib.Omega.{arith}
use lib.Dec.{eqb}
use Rattle.sequencing.specs.Lists.{at, sum, filter}
use Rattle.sequencing.specs.Problem.{Problem, kind, AllPermitted}
use Rattle.sequencing.specs.States.{complete, jobs_of, K, all_left, IsLeft, by_hand_in}
use Rattle.sequencing.specs.Least.{arg_least}
use Rattle.sequencing.specs.Recursion.{cost_to_go, choice, walk, plan_cost, plan_kinds, plan_order}
use Rattle.sequencing.specs.Following.{walk_by, by_hand_in_upto}
use Rattle.sequencing.proofs.Vectors.{at_take, at_in}
use Rattle.sequencing.proofs.AllJobs.{all_left_lem}
use Rattle.sequencing.proofs.JobsLeft.{complete_left, complete_below}
use Rattle.sequencing.proofs.Fills.{Fills}
use Rattle.sequencing.proofs.Recursion.{walk_is, walk_by_lem}
use Rattle.splitting.specs.Splits.{of_both}
use Rattle.splitting.specs.Shares.{share, share_order, first_share, second_share}
use Rattle.splitting.specs.Taken.{both, counts_cost}
use Rattle.splitting.specs.Scan.{others}
use Rattle.splitting.proofs.Lists.{at_map, at_drop}
use Rattle.splitting.proofs.Bridge.{Alike, plan_bridge, kinds_bridge}
use Rattle.splitting.proofs.Shares.{share_jobs}
use Rattle.splitting.proofs.Counts.{first_jobs, second_jobs, first_K, second_K, first_counts, second_counts, others_left}
use Rattle.splitting.proofs.Best.{both_some, counts_are}

module _ (P : Problem) (s : ℕ) (js : List ℕ) where
  abbrev Q : Problem
  Q = share P s js

  -- the share's jobs by hand-in are the message's up to the m_x-th of each kind
  abbrev Ends : List ℕ → Type 0
  Ends m = (x t : ℕ) → 1 ≤ x → x ≤ P.N → t < K Q x → at (filter (λ i. eqb x (kind P i)) js) (K Q x - t) ≡ at (jobs_of P x) (at m x - t)

  by_hand_in_lem : (m : List ℕ) → Ends m → (k xs : List ℕ) → IsLeft Q k → Fills Q k xs → map (at js) (by_hand_in Q k xs) ≡ by_hand_in_upto P m k xs
  unfolding by_hand_in by_hand_in_upto Fills
  by_hand_in_lem m h k [] l f = refl
  by_hand_in_lem m h k (x ∷ xs) l f =
      let i : ℕ = K Q x - at (complete k x) x in
      let b = at_in k x f.0 in
      ap₂ ◌∷◌ (sym (at_map (at js) refl (jobs_of Q x) i) ∙ ap (λ l. at l i) (share_jobs P s js x)
      ∙ h x (at (complete k x) x) b.0 (omega (arith, l.long)) (complete_below Q k x l f.0))
      (by_hand_in_lem m h (complete k x) xs (complete_left Q k x l f.0) f.2)

  module _ (permitted : AllPermitted P) (k : List ℕ) (e : all_left Q ≡ k) (l : IsLeft P k) where
    alike : Alike P Q
    alike = record { N = refl; gap = refl; goal = refl; weight = refl; permitted_P = permitted; permitted_Q = λ i p a b a' b'. tt }

    -- any share with k jobs of each kind costs what is found from row s with k left
    pub share_value : plan_cost Q ≡ cost_to_go P s k
    share_value = plan_bridge P Q alike (rw e l) ∙ ap (cost_to_go P s) e

    -- and its kinds are those of the walk from there
    pub share_walk : (c : ℕ) → plan_cost Q ≡ some c → plan_kinds Q ≡ walk P (sum k) s k
    share_walk c q = kinds_bridge P Q alike (rw e l) c q ∙ ap (λ k. walk P (sum k) s k) e

    -- so its order is the walk's, which begins with the choice from row s
    share_order_lem : (m : List ℕ) → Ends m → (c : ℕ) → plan_cost Q ≡ some c → (y : ℕ) → (0 < sum k → y ≡ arg_least (choice P s k) P.N)
        → by_hand_in_upto P m k (walk_by P (sum k) y k) ≡ share_order P s js
    unfolding share_order plan_order plan_cost plan_kinds
    share_order_lem m h c q y first =
        ap (by_hand_in_upto P m k) (sym (walk_by_lem P (sum k) s k y first))
        ∙ sym (by_hand_in_lem m h (all_left Q) (plan_kinds Q) (all_left_lem Q) (walk_is Q (sum (all_left Q)) s (all_left Q) c refl q).0
        ∙ ap₂ (by_hand_in_upto P m) e (share_walk c q))

module _ (P : Problem) (permitted : AllPermitted P) (n : List ℕ) (l : IsLeft P n) where
  -- the cost by counts is made of two looks into the message's table
  pub looked_up : (s : ℕ) → counts_cost P s n ≡ both P.goal (cost_to_go P P.start n) (cost_to_go P s (others P n))
  unfolding counts_cost
  looked_up s = ap₂ (both P.goal)
      (share_value P P.start (first_share P n) permitted n (first_counts P n l P.start) l)
      (share_value P s (second_share P n) permitted (others P n) (second_counts P n l s) (others_left P n l))

  module _ (s c : ℕ) (e : counts_cost P s n ≡ some c) where
    -- both of which find something
    pub looks_found : (a b : ℕ) × (cost_to_go P P.start n ≡ some a) × (cost_to_go P s (others P n) ≡ some b) × (c ≡ of_both P.goal a b)
    looks_found = both_some P.goal (cost_to_go P P.start n) (cost_to_go P s (others P n)) c (sym (looked_up s) ∙ e)

    -- the first cutter follows the walk from n: of each kind the first, up to the n_j-th
    pub first_order_lem : (m : List ℕ) → ((x : ℕ) → 1 ≤ x → x ≤ P.N → at m x ≡ at n x)
        → (y : ℕ) → (0 < sum n → y ≡ arg_least (choice P P.start n) P.N)
        → by_hand_in_upto P m n (walk_by P (sum n) y n) ≡ share_order P P.start (first_share P n)
    first_order_lem m upto =
        share_order_lem P P.start (first_share P n) permitted n (first_counts P n l P.start) l m
        (λ x t a b h. rw (first_jobs P n l x, first_K P n l P.start x, upto x a b) (at_take (at n x) (jobs_of P x) (at n x - t) (omega arith)))
        (counts_are P s n c e).0 (counts_are P s n c e).2

    -- the second the walk from the others: the later ones, up to the last
    pub second_order_lem : (m : List ℕ) → ((x : ℕ) → 1 ≤ x → x ≤ P.N → at m x ≡ K P x)
        → (y : ℕ) → (0 < sum (others P n) → y ≡ arg_least (choice P s (others P n)) P.N)
        → by_hand_in_upto P m (others P n) (walk_by P (sum (others P n)) y (others P n)) ≡ share_order P s (second_share P n)
    second_order_lem m upto =
        let Q = share P s (second_share P n) in
        share_order_lem P s (second_share P n) permitted (others P n) (second_counts P n l s) (others_left P n l) m
        (λ x t a b h. rw (second_jobs P n l x, upto x a b)
        (at_drop (at n x) (jobs_of P x) (K Q x - t) (K P x - t) (omega arith) (omega (arith, second_K P n l s x))))
        (counts_are P s n c e).1 (counts_are P s n c e).3
