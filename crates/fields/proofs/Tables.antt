-- Lists by their elements: `tabulate`, and parts of an array.
-- Assumes nothing.
use Prim.Native.Nat.{ℕ, zero, suc, ◌+◌, ◌-◌, ◌<◌, ◌≤◌}
use mathlib.Core.Path.{◌≡◌, refl, sym, ap, ap₂, ◌∙◌}
use mathlib.Core.List.{List, ◌∷◌, ◌++◌, append_assoc}
use native.Mathlib.Omega.{arith}
use native.Mathlib.Nat.{zero-add, add-zero, eq-or-lt_of_le}
use mathlib.Core.Logic.{inl, inr}
use lib.ListN.{length, get_or, take, drop}
use lib.Seq.{sets, sets-eq, drop-cons, take_at, drop_at, length-take-le}
use Rattle.fields.specs.Fields.{part}
use Rattle.fields.specs.Lists.{tabulate}
use Rattle.fields.proofs.Codecs.{All}

module _ {A : Type 0} (f : ℕ → A) where
  pub length_tabulate : (i n : ℕ) → length (tabulate f i n) ≡ n
  unfolding tabulate
  length_tabulate i zero = refl
  length_tabulate i (suc n) = ap suc (length_tabulate (suc i) n)

  pub tabulate_at : (d : A) (i n k : ℕ) → k < n → get_or (tabulate f i n) k d ≡ f (i + k)
  unfolding tabulate
  tabulate_at d i zero k h = absurd (omega arith)
  tabulate_at d i (suc n) zero h = ap f (sym (add-zero i))
  tabulate_at d i (suc n) (suc k) h = tabulate_at d (suc i) n k (omega arith) ∙ ap f (omega arith)

  pub tabulate_ext : (g : ℕ → A) (i n : ℕ) → ((k : ℕ) → i ≤ k → k < i + n → f k ≡ g k) → tabulate f i n ≡ tabulate g i n
  unfolding tabulate
  tabulate_ext g i zero h = refl
  tabulate_ext g i (suc n) h = ap₂ ◌∷◌ (h i (omega arith) (omega arith)) (tabulate_ext g (suc i) n (λ k l u. h k (omega arith) (omega arith)))

  pub all_tabulate : (P : A → Type 0) (i n : ℕ) → ((k : ℕ) → i ≤ k → k < i + n → P (f k)) → All P (tabulate f i n)
  unfolding tabulate
  all_tabulate P i zero h = tt
  all_tabulate P i (suc n) h = (h i (omega arith) (omega arith), all_tabulate P (suc i) n (λ k l u. h k (omega arith) (omega arith)))

  pub tabulate_all : (P : A → Type 0) (i n : ℕ) → All P (tabulate f i n) → (k : ℕ) → i ≤ k → k < i + n → P (f k)
  unfolding tabulate
  tabulate_all P i zero h k l u = absurd (omega arith)
  tabulate_all P i (suc n) h k l u = elim (eq-or-lt_of_le l) [
    | inl e ↦ rw (← e) h.0
    | inr m ↦ tabulate_all P (suc i) n h.1 k m (omega arith)
  ]

  pub tabulate_same : (g : ℕ → A) (i n : ℕ) → tabulate f i n ≡ tabulate g i n → (k : ℕ) → i ≤ k → k < i + n → f k ≡ g k
  unfolding tabulate
  tabulate_same g i zero h k l u = absurd (omega arith)
  tabulate_same g i (suc n) h k l u =
      let here : f i ≡ g i = cc in
      let rest : tabulate f (suc i) n ≡ tabulate g (suc i) n = cc in
      elim (eq-or-lt_of_le l) [
        | inl e ↦ rw (← e) here
        | inr m ↦ tabulate_same g (suc i) n rest k m (omega arith)
      ]

-- the values at positions from, from + 1, .. of an array
part_from : (vs : List ℕ) (from i n : ℕ) → from + i + n ≤ length vs → tabulate (λ j. get_or vs (from + (j - 1)) 0) (suc i) n ≡ part (from + i) n vs
unfolding tabulate
part_from vs from i zero h = refl
part_from vs from i (suc n) h =
    let e : suc i - 1 ≡ i = omega arith in
    let d : from + suc i ≡ suc (from + i) = omega arith in
    rw (e, drop-cons vs (from + i) 0 (omega arith)) (ap (λ (l : List ℕ). get_or vs (from + i) 0 ∷ l) (part_from vs from (suc i) n (omega arith) ∙ rw d))

pub tabulate_part : (vs : List ℕ) (from n : ℕ) → from + n ≤ length vs → tabulate (λ j. get_or vs (from + (j - 1)) 0) 1 n ≡ part from n vs
tabulate_part vs from n h = part_from vs from 0 n (omega arith) ∙ ap (λ (k : ℕ). part k n vs) (add-zero from)

-- .. from its beginning on
pub list_part : (vs : List ℕ) (n : ℕ) → n ≤ length vs → tabulate (λ j. get_or vs (j - 1) 0) 1 n ≡ part 0 n vs
list_part vs n h =
    tabulate_ext (λ j. get_or vs (j - 1) 0) (λ j. get_or vs (0 + (j - 1)) 0) 1 n (λ k l u. ap (λ (i : ℕ). get_or vs i 0) (sym (zero-add (k - 1))))
    ∙ tabulate_part vs 0 n (omega arith)

-- what was stored is there
pub part_sets : (l : List ℕ) (from : ℕ) (vs : List ℕ) → from + length vs ≤ length l → part from (length vs) (sets l from vs) ≡ vs
part_sets l from vs h =
    ap (λ (x : List ℕ). part from (length vs) x) (sets-eq vs l from h ∙ append_assoc (take from l) vs (drop (from + length vs) l))
    ∙ ap (take (length vs)) (drop_at (take from l) (vs ++ drop (from + length vs) l) from (length-take-le from l (omega arith)))
    ∙ take_at vs (drop (from + length vs) l) (length vs) refl
