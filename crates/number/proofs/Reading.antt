-- Reading a number group by group: what a turn of the loop adds, and the loop's invariant.
-- Assumes nothing.
use Prim.Native.Nat.{ℕ, zero, suc, ◌+◌, ◌-◌, ◌*◌, ◌^◌, ◌<◌, ◌≤◌}
use mathlib.Core.Path.{◌≡◌, refl, ap, ◌∙◌}
use mathlib.Core.Bool.{Bool, true, false, false≢true}
use mathlib.Core.Logic.{inl, inr}
use mathlib.Core.List.{List}
use native.Mathlib.Omega.{arith}
use native.Mathlib.Numerals.{add-one}
use native.Mathlib.Nat.{mul-add, mul_assoc, add_assoc}
use lib.Dec.{eqb}
use lib.ListN.{length, get_or, drop, drop_of_length-le}
use lib.Seq.{drop-cons}
use lib.Pow.{pow-add}
use borrow.Author.Tests.{lt-ltb, le-ltb, eq-eqb, ne_eqb, eqb-true}
use Rattle.refusal.specs.declared.Reason.TheVariants.{Ends, Groups}
use Rattle.number.specs.Readers.{Found, found, refused}
use Rattle.number.specs.Numbers.{above, last, groups_at, number}
use Rattle.number.proofs.Bits.{placed_lt}
use Rattle.number.proofs.Steps.{bool_cases}

-- a number v above `low`, of m's weight: 2 ^ 7 for one group
abbrev pub placed : ℕ → ℕ → Found ℕ → Found ℕ
placed m low (found v n) = found (low + m * v) n
placed m low (refused r) = refused r

placed_above : (m low d : ℕ) (f : Found ℕ) → placed m low (above d f) ≡ placed (m * 128) (low + m * d) f
placed_above m low d (found v k) = ap (λ (x : ℕ). found x k) (simp (mul-add, mul_assoc, add_assoc))
placed_above m low d (refused r) = refl

module _ (first : Bool) (i : ℕ) (s : List ℕ) where
  at_end : (g : ℕ) → 0 < g → length s ≤ i → groups_at first g i (drop i s) ≡ refused Ends
  unfolding groups_at
  at_end zero h e = absurd (omega arith)
  at_end (suc g) h e = rw (drop_of_length-le s e)

  at_last : (g : ℕ) → 0 < g → i < length s → get_or s i 0 < 128 → groups_at first g i (drop i s) ≡ last first (get_or s i 0) (i + 1)
  unfolding groups_at
  at_last zero h l b = absurd (omega arith)
  at_last (suc g) h l b = rw (drop-cons s i 0 l, lt-ltb _ _ b)

  at_more : (g : ℕ) → 0 < g → i < length s → 128 ≤ get_or s i 0
      → groups_at first g i (drop i s) ≡ above (get_or s i 0 - 128) (groups_at false (g - 1) (i + 1) (drop (i + 1) s))
  unfolding groups_at
  at_more zero h l b = absurd (omega arith)
  at_more (suc g) h l b =
      let e : suc g - 1 ≡ g = omega arith in
      rw (drop-cons s i 0 l, le-ltb _ _ b, e, add-one i)

last_any : (first : Bool) (b n : ℕ) → (b ≡ 0 → first ≡ true) → last first b n ≡ found b n
last_any true b n h = refl
last_any false b n h = elim (bool_cases (eqb b 0)) [
  | inl e ↦ absurd (false≢true (h (eqb-true b 0 e)))
  | inr e ↦ rw e
]

-- before position i with `left` groups to come
pub record Reading (bytes : List ℕ) (at groups value shift i left : ℕ) : Type 0 where
  pub from : at ≤ i
  pub shifted : shift ≡ 7 * (i - at)
  pub groups_left : left + (i - at) ≡ groups
  pub fits : value < 2 ^ shift
  pub means : number groups bytes at ≡ placed (2 ^ shift) value (groups_at (eqb shift 0) left i (drop i bytes))

module _ (bytes : List ℕ) (at groups value shift i left : ℕ) (w : Reading bytes at groups value shift i left) where
  pub reading_out : left ≡ 0 → number groups bytes at ≡ refused Groups
  unfolding groups_at
  reading_out h = w.means ∙ rw h

  module _ (h : 0 < left) where
    pub reading_ends : length bytes ≤ i → number groups bytes at ≡ refused Ends
    reading_ends e = w.means ∙ rw (at_end (eqb shift 0) i bytes left h e)

    module _ (l : i < length bytes) where
      pub reading_more : 128 ≤ get_or bytes i 0 → get_or bytes i 0 - 128 < 128
          → Reading bytes at groups (value + 2 ^ shift * (get_or bytes i 0 - 128)) (shift + 7) (i + 1) (left - 1)
      reading_more b u =
          record {
            from = omega (arith, w);
            shifted = omega (arith, w);
            groups_left = omega (arith, w);
            fits = placed_lt value (get_or bytes i 0 - 128) shift w.fits u;
            means = rw (ne_eqb (shift + 7) 0 (omega arith), pow-add 2 shift 7)
                (w.means
                ∙ ap (placed (2 ^ shift) value) (at_more (eqb shift 0) i bytes left h l b)
                ∙ placed_above (2 ^ shift) value (get_or bytes i 0 - 128) (groups_at false (left - 1) (i + 1) (drop (i + 1) bytes)));
          }

      -- a last group of 00 that is not the first
      pub reading_zero : get_or bytes i 0 ≡ 0 → 0 < shift → number groups bytes at ≡ refused Groups
      reading_zero z p =
          w.means ∙ rw (at_last (eqb shift 0) i bytes left h l (omega arith), ne_eqb shift 0 (omega arith), eq-eqb _ _ z)

      -- a last group that is not 00, or is the first
      pub reading_last : get_or bytes i 0 < 128 → (get_or bytes i 0 ≡ 0 → shift ≡ 0)
          → number groups bytes at ≡ found (value + 2 ^ shift * get_or bytes i 0) (i + 1)
      reading_last b z =
          w.means ∙ rw (at_last (eqb shift 0) i bytes left h l b, last_any (eqb shift 0) (get_or bytes i 0) (i + 1) (λ q. eq-eqb shift 0 (z q)))
