-- Counting through all k: each step is to the digits of the next index, and it ends at the first kind that can have one more.
-- Assumes nothing.
use Prim.Native.Nat.{ℕ, suc, ◌+◌, ◌-◌, ◌*◌, ◌/◌, ◌%◌, ◌≤◌, ◌<◌}
use mathlib.Core.Path.{◌≡◌, refl, sym, ap, ap₂, ◌∙◌}
use mathlib.Core.Bool.{cond}
use mathlib.Core.Logic.{inl, inr}
use mathlib.Core.List.{List, [], ◌∷◌, ◌++◌, append-nil, append_assoc}
use native.Mathlib.Omega.{arith}
use native.Mathlib.Nat.{mod-lt, mod-add-div, mod-eq_of_lt, div-eq_of_lt, mod_self, div_self, add-mul-div_left, add-mul-mod_self_left}
use borrow.Author.Tests.{lt-ltb, le-ltb, ltb-true, ltb-false}
use lib.Dec.{ltb}
use lib.ListN.{length, get_or, take, drop, set, replicate, length-set, drop_of_length-le}
use lib.Seq.{take-add, take-suc-set, drop-set-lt, drop-cons}
use Rattle.fields.specs.Fields.{part}
use Rattle.fields.proofs.Parts.{part_more}
use Rattle.sequencing.specs.Entries.{digits}
use Rattle.number.proofs.Steps.{bool_cases}
use Rattle.jobs_left.specs.declared.Kind.{Kind}
use Rattle.jobs_left.specs.Kinds.{no_kind, counts_of}
use Rattle.jobs_left.specs.Steps.{next}

-- ---- digits

-- i = a + (c + 1) × q goes to a + 1, or to 0 with one more in q
digit_up : (c i : ℕ) → i % suc c < c → (suc i % suc c ≡ suc (i % suc c)) × (suc i / suc c ≡ i / suc c)
digit_up c i h =
    let e : suc i ≡ suc (i % suc c) + suc c * (i / suc c) = omega (arith, mod-add-div i (suc c)) in
    let l : suc (i % suc c) < suc c = omega arith in (
      ap (λ n. n % suc c) e ∙ add-mul-mod_self_left (suc (i % suc c)) (suc c) (i / suc c) ∙ mod-eq_of_lt l,
      ap (λ n. n / suc c) e ∙ omega (arith, add-mul-div_left (suc (i % suc c)) (i / suc c) {y = suc c} (omega arith), div-eq_of_lt l),
    )

digit_over : (c i : ℕ) → c ≤ i % suc c → (suc i % suc c ≡ 0) × (suc i / suc c ≡ suc (i / suc c))
digit_over c i h =
    let e : suc i ≡ suc c + suc c * (i / suc c) = omega (arith, mod-add-div i (suc c), mod-lt i {m = suc c} (omega arith)) in (
      ap (λ n. n % suc c) e ∙ add-mul-mod_self_left (suc c) (suc c) (i / suc c) ∙ mod_self (suc c),
      ap (λ n. n / suc c) e ∙ omega (arith, add-mul-div_left (suc c) (i / suc c) {y = suc c} (omega arith), div_self {n = suc c} (omega arith)),
    )

-- the step from the k of index i is to that of i + 1
pub next_digits : (cs : List ℕ) (i : ℕ) → next cs (digits cs i) ≡ digits cs (suc i)
unfolding next digits
next_digits [] i = refl
next_digits (c ∷ cs) i = elim (bool_cases (ltb (i % suc c) c)) [
  | inl t ↦ (let d = digit_up c i (ltb-true (i % suc c) c t) in rw (t, d.0, d.1))
  | inr t ↦ (let d = digit_over c i (ltb-false (i % suc c) c t) in rw (t, d.0, d.1) (ap (λ k. 0 ∷ k) (next_digits cs (i / suc c))))
]

-- the first k has nothing left of any kind
pub digits_zero : (cs : List ℕ) → digits cs 0 ≡ replicate (length cs) 0
unfolding digits
digits_zero [] = refl
digits_zero (c ∷ cs) =
    let h : 0 < suc c = omega arith in
    ap₂ (λ a k. a ∷ k) (mod-eq_of_lt h) (ap (digits cs) (div-eq_of_lt h) ∙ digits_zero cs)

-- ---- the loop

-- the kinds before j are at 0, and the step goes on with those from j
pub record Stepping (kinds : List Kind) (left₀ left : List ℕ) (j : ℕ) : Type 0 where
  pub few : j ≤ length kinds
  pub long : length left ≡ length left₀
  pub means : next (counts_of kinds) (take (length kinds) left₀) ≡ take j left ++ next (counts_of (drop j kinds)) (part j (length kinds - j) left)
  pub past : drop (length kinds) left ≡ drop (length kinds) left₀

-- the step is done: what it leaves of the kinds, and past them all is as it was
pub record Stepped (kinds : List Kind) (left₀ left : List ℕ) : Type 0 where
  pub left_after : take (length kinds) left ≡ next (counts_of kinds) (take (length kinds) left₀)
  pub left_unchanged : drop (length kinds) left ≡ drop (length kinds) left₀

front_set : (n : ℕ) (l : List ℕ) (j a : ℕ) → j < n → j < length l → take n (set l j a) ≡ take j l ++ a ∷ part (j + 1) (n - (j + 1)) l
front_set n l j a h r =
    let e : n ≡ suc j + (n - (j + 1)) = omega arith in
    let f : j + 1 ≡ suc j = omega arith in
    ap (λ m. take m (set l j a)) e ∙ take-add (suc j) (n - (j + 1)) (set l j a)
    ∙ rw (take-suc-set l j a r, drop-set-lt (suc j) l j a (omega arith), f) (append_assoc (take j l) (a ∷ []) (part (suc j) (n - suc j) l))

module _ {kinds : List Kind} {left₀ : List ℕ} where
  pub stepping_none : Stepping kinds left₀ left₀ 0
  stepping_none = let e : length kinds - 0 ≡ length kinds = omega arith in record { few = omega arith; long = refl; means = rw e; past = refl }

  module _ {left : List ℕ} {j : ℕ} (all_left_lem : length kinds ≤ length left₀) (w : Stepping kinds left₀ left j) where
    -- what the step leaves of kind j and those behind it
    here : j < length kinds → next (counts_of (drop j kinds)) (part j (length kinds - j) left)
        ≡ cond (ltb (get_or left j 0) (get_or kinds j no_kind).count) (suc (get_or left j 0) ∷ part (suc j) (length kinds - suc j) left)
        (0 ∷ next (counts_of (drop (suc j) kinds)) (part (suc j) (length kinds - suc j) left))
    unfolding next
    here h =
        let e : length kinds - j - 1 ≡ length kinds - suc j = omega arith in
        let f : j + 1 ≡ suc j = omega arith in
        rw (drop-cons kinds j no_kind h, part_more left j (length kinds - j) (omega arith) (omega (arith, w.long)), e, f)

    pub stepping_more : j < length kinds → (get_or kinds j no_kind).count ≤ get_or left j 0 → Stepping kinds left₀ (set left j 0) (j + 1)
    stepping_more h t =
        let f : j + 1 ≡ suc j = omega arith in
        record {
          few = omega arith;
          long = length-set left j 0 ∙ w.long;
          means = w.means
              ∙ rw (here h, le-ltb (get_or left j 0) (get_or kinds j no_kind).count t, f, take-suc-set left j 0 (omega (arith, w.long)), drop-set-lt (suc j) left j 0 (omega arith))
              (sym (append_assoc (take j left) (0 ∷ []) (next (counts_of (drop (suc j) kinds)) (part (suc j) (length kinds - suc j) left))));
          past = drop-set-lt (length kinds) left j 0 h ∙ w.past;
        }

    pub stepping_out : j < length kinds → get_or left j 0 < (get_or kinds j no_kind).count
        → Stepped kinds left₀ (set left j (get_or left j 0 + 1))
    stepping_out h t =
        let f : get_or left j 0 + 1 ≡ suc (get_or left j 0) = omega arith in
        let g : j + 1 ≡ suc j = omega arith in
        record {
          left_after = front_set (length kinds) left j (get_or left j 0 + 1) h (omega (arith, w.long))
              ∙ sym (w.means ∙ rw (here h, lt-ltb (get_or left j 0) (get_or kinds j no_kind).count t, f, g));
          left_unchanged = drop-set-lt (length kinds) left j (get_or left j 0 + 1) h ∙ w.past;
        }

    pub stepping_done : length kinds ≤ j → Stepped kinds left₀ left
    unfolding next
    stepping_done h =
        let e : length kinds ≡ j = omega (arith, w.few) in
        record { left_after = ap (λ m. take m left) e ∙ sym (w.means ∙ rw (drop_of_length-le kinds h) (append-nil (take j left))); left_unchanged = w.past }
