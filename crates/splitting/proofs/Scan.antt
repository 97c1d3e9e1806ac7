-- A loop over all counts in the table's order finds the split taken, if it compares counts where costs are equal.
-- Assumes nothing.
use mathlib.Core.List.{List}
use mathlib.Core.Logic.{◌⊎◌, inl, inr}
use mathlib.Core.Option.{Option, none, some}
use mathlib.Core.Path.{◌≡◌, refl, sym, ap, ◌∙◌}
use Prim.Native.Nat.{ℕ, suc, ◌≤◌, ◌<◌}
use native.Mathlib.Omega.{arith}
use Rattle.sequencing.specs.Problem.{Problem, Proper}
use Rattle.sequencing.specs.States.{all_left, IsLeft}
use Rattle.sequencing.specs.Entries.{index, digits, k_at, block}
use Rattle.sequencing.specs.Ties.{Precedes}
use Rattle.sequencing.proofs.Counting.{one_cases}
use Rattle.sequencing.proofs.Options.{none_some, some_eq}
use Rattle.sequencing.proofs.AllJobs.{length_all, below_all}
use Rattle.sequencing.proofs.Radix.{index_in, digits_index}
use Rattle.sequencing.proofs.Entries.{left_digits}
use Rattle.splitting.specs.Taken.{counts_cost, taken_cost, taken_counts, Taken}
use Rattle.splitting.specs.Scan.{NoneHeld, Held}
use Rattle.splitting.proofs.Precedes.{precedes_self, precedes_trans}
use Rattle.splitting.proofs.Best.{taken_below, taken, taken_one}

-- ---- the loop, over any costs and any bounds

module _ (f : ℕ → Option ℕ) (cs : List ℕ) (i : ℕ) where
  -- no counts with a cost so far
  module _ (h : NoneHeld f i) where
    -- nor the next
    pub none_more : f i ≡ none → NoneHeld f (suc i)
    none_more e = λ j l. elim (one_cases j i) [ inl q ↦ rw q.0 e | inr q ↦ h j (omega arith) ]

    -- or the next are the first
    pub held_first : {d : ℕ} → f i ≡ some d → Held f cs (suc i) i d
    held_first {d} e = record {
      reached = e;
      bound = λ j g l r. elim (one_cases j i) [
        | inl q ↦ (let same = some_eq d g (sym e ∙ rw q.0 at r) in omega arith)
        | inr q ↦ absurd (none_some g (sym (h j (omega arith)) ∙ r))
      ];
      first = λ j l r. elim (one_cases j i) [ inl q ↦ rw q.0 (precedes_self (digits cs i)) | inr q ↦ absurd (none_some d (sym (h j (omega arith)) ∙ r)) ];
    }

  module _ (k c : ℕ) (h : Held f cs i k c) where
    -- the next counts cost less, or the same and come first
    pub held_new : {d : ℕ} → f i ≡ some d → (d < c) ⊎ ((d ≡ c) × Precedes (digits cs i) (digits cs k)) → Held f cs (suc i) i d
    held_new {d} e better =
        let low : d ≤ c = elim better [ inl w ↦ omega arith | inr w ↦ omega (arith, w.0) ] in
        record {
          reached = e;
          bound = λ j g l r. elim (one_cases j i) [
            | inl q ↦ (let same = some_eq d g (sym e ∙ rw q.0 at r) in omega arith)
            | inr q ↦ omega (arith, h.bound j g (omega arith) r)
          ];
          first = λ j l r. elim (one_cases j i) [
            | inl q ↦ rw q.0 (precedes_self (digits cs i))
            | inr q ↦ (elim better [
              | inl w ↦ absurd (omega (arith, h.bound j d (omega arith) r))
              | inr w ↦ precedes_trans (digits cs i) (digits cs k) (digits cs j) w.1 (h.first j (omega arith) (r ∙ ap some w.0))
            ])
          ];
        }

    -- or not
    pub held_on : ((d : ℕ) → f i ≡ some d → (c < d) ⊎ ((c ≡ d) × Precedes (digits cs k) (digits cs i))) → Held f cs (suc i) k c
    held_on worse = record {
      reached = h.reached;
      bound = λ j g l r. elim (one_cases j i) [
        | inl q ↦ (elim (worse g (rw q.0 at r)) [ inl w ↦ omega arith | inr w ↦ omega (arith, w.0) ])
        | inr q ↦ h.bound j g (omega arith) r
      ];
      first = λ j l r. elim (one_cases j i) [
        | inl q ↦ rw q.0 (elim (worse c (rw q.0 at r)) [ inl w ↦ absurd (omega arith) | inr w ↦ w.1 ])
        | inr q ↦ h.first j (omega arith) r
      ];
    }

-- ---- its end

module _ (P : Problem) (proper : Proper P) (s : ℕ) where
  -- the cost of the counts whose index is i
  abbrev pub cost_at : ℕ → Option ℕ
  cost_at i = counts_cost P s (k_at P i)

  -- counts by their index
  module _ {m : List ℕ} (l : IsLeft P m) where
    index_left : index (all_left P) m < block P
    index_left = index_in (all_left P) m (l.long ∙ sym (length_all P)) (below_all P m l)

    cost_back : cost_at (index (all_left P) m) ≡ counts_cost P s m
    cost_back = ap (counts_cost P s) (digits_index (all_left P) m (l.long ∙ sym (length_all P)) (below_all P m l))

  -- no split
  pub none_taken : NoneHeld cost_at (block P) → taken_cost P s ≡ none
  none_taken h = go (taken_cost P s) refl
    where
      go : (r : Option ℕ) → taken_cost P s ≡ r → taken_cost P s ≡ none
      go none e = e
      go (some d) e =
          let t = taken P proper s d e in
          absurd (none_some d (sym (h (index (all_left P) (taken_counts P s)) (index_left t.counts)) ∙ cost_back t.counts ∙ t.reached))

  -- the split taken
  module _ (k c : ℕ) (h : Held cost_at (all_left P) (block P) k c) where
    held_is : Taken P s (k_at P k) c
    held_is = record {
      counts = left_digits P k;
      reached = h.reached;
      bound = λ m d l g. h.bound (index (all_left P) m) d (index_left l) (cost_back l ∙ g);
      first = λ m l g. rw (digits_index (all_left P) m (l.long ∙ sym (length_all P)) (below_all P m l))
          at (h.first (index (all_left P) m) (index_left l) (cost_back l ∙ g));
    }

    pub held_taken : (taken_cost P s ≡ some c) × (k_at P k ≡ taken_counts P s)
    held_taken = go (taken_cost P s) refl
      where
        go : (r : Option ℕ) → taken_cost P s ≡ r → (taken_cost P s ≡ some c) × (k_at P k ≡ taken_counts P s)
        go none e = absurd (rw e at (taken_below P proper s (k_at P k) c (left_digits P k) h.reached))
        go (some d) e =
            let (same, is) = taken_one P proper s (k_at P k) (taken_counts P s) c d held_is (taken P proper s d e) in
            (e ∙ ap some (sym is), same)
