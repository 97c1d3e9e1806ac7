-- Lists laid one after the other: where each begins, and what stands there.
-- Assumes nothing.
use Prim.Native.Nat.{ℕ, zero, suc, ◌+◌, ◌≤◌, ◌<◌}
use mathlib.Core.Path.{◌≡◌, refl, ap, ◌∙◌}
use mathlib.Core.List.{List, ◌++◌, map, flat_map}
use native.Mathlib.Omega.{arith}
use native.Mathlib.Nat.{add_assoc}
use lib.ListN.{length, get_or, take, drop, length-append, get_or-append}
use lib.Seq.{sets, sets-eq, take_at, drop_at, get_or-append-add}
use Rattle.fields.specs.Lists.{tabulate}
use Rattle.fields.proofs.Tables.{length_tabulate}
use Rattle.sequencing.specs.Lists.{from, sum}

-- ---- what an array holds

module _ {A : Type 0} (l vs : List A) (fits : length vs ≤ length l) where
  module _ (n : ℕ) (e : length vs ≡ n) where
    pub sets_in_is : sets l 0 vs ≡ vs ++ drop n l
    sets_in_is = sets-eq vs l 0 (omega arith) ∙ ap (λ m. vs ++ drop m l) (omega arith)

    pub take_sets_in : take n (sets l 0 vs) ≡ vs
    take_sets_in = ap (take n) sets_in_is ∙ take_at vs (drop n l) n e

    pub drop_sets_in : drop n (sets l 0 vs) ≡ drop n l
    drop_sets_in = ap (drop n) sets_in_is ∙ drop_at vs (drop n l) n e

  -- what was stored at the front is there
  pub get_d_sets_in : (d : A) (k : ℕ) → k < length vs → get_or (sets l 0 vs) k d ≡ get_or vs k d
  get_d_sets_in d k h = ap (λ xs. get_or xs k d) (sets_in_is (length vs) refl) ∙ get_or-append vs (drop (length vs) l) d k h

-- ---- blocks

module _ {A : Type 0} (f : ℕ → List A) where
  pub flat_long : (i n : ℕ) → length (flat_map f (from i n)) ≡ sum (map (λ j. length (f j)) (from i n))
  unfolding flat_map from sum
  flat_long i zero = refl
  flat_long i (suc n) = omega (arith, length-append (f i) (flat_map f (from (suc i) n)), flat_long (suc i) n)

  -- the block of i + r begins behind those of i, i + 1, ..
  pub flat_at : (d : A) (i n r m : ℕ) → r < n → m < length (f (i + r))
      → get_or (flat_map f (from i n)) (sum (map (λ j. length (f j)) (from i r)) + m) d ≡ get_or (f (i + r)) m d
  unfolding flat_map from sum
  flat_at d i zero r m h l = absurd (omega arith)
  flat_at d i (suc n) zero m h l =
      let e : i + 0 ≡ i = omega arith in
      let g : 0 + m ≡ m = omega arith in
      rw (e, g) (get_or-append (f i) (flat_map f (from (suc i) n)) d m (rw e at l))
  flat_at d i (suc n) (suc r) m h l =
      let e : i + suc r ≡ suc i + r = omega arith in
      let s : ℕ = sum (map (λ j. length (f j)) (from (suc i) r)) in
      rw (e, add_assoc (length (f i)) s m) (get_or-append-add (f i) (flat_map f (from (suc i) n)) (s + m) d ∙ flat_at d (suc i) n r m (omega arith) (rw e at l))

-- a front and the next are no more than all
pub sum_front : (f : ℕ → ℕ) (i n r : ℕ) → r < n → sum (map f (from i r)) + f (i + r) ≤ sum (map f (from i n))
unfolding from sum
sum_front f i zero r h = absurd (omega arith)
sum_front f i (suc n) zero h = let e : i + 0 ≡ i = omega arith in rw e (omega arith)
sum_front f i (suc n) (suc r) h = let e : i + suc r ≡ suc i + r = omega arith in rw e (omega (arith, sum_front f (suc i) n r (omega arith)))

-- blocks of one more than c j each
pub sum_slots : {A : Type 0} (f : ℕ → ℕ → A) (c : ℕ → ℕ) (i n : ℕ)
    → sum (map (λ j. length (tabulate (f j) 0 (c j + 1))) (from i n)) ≡ sum (map c (from i n)) + n
unfolding from sum
sum_slots f c i zero = refl
sum_slots f c i (suc n) = omega (arith, length_tabulate (f i) 0 (c i + 1), sum_slots f c (suc i) n)
