-- Sets of places: the bit of one place, and whether it is in a range.
-- Assumes nothing.
use Prim.Native.Nat.{ℕ, suc, ◌+◌, ◌-◌, ◌*◌, ◌/◌, ◌%◌, ◌^◌, ◌<◌, ◌≤◌}
use mathlib.Core.Bool.{true, false, ◌&&◌, and-false}
use mathlib.Core.Logic.{inl, inr}
use mathlib.Core.Path.{◌≡◌, refl, sym, ap, ◌∙◌}
use native.Mathlib.Omega.{arith}
use native.Mathlib.Nat.{mul_comm, mul-sub, one-mul, zero-mul, suc-mul, pow-suc}
use borrow.Author.Tests.{lt-ltb, le-ltb, le-leb, lt-leb}
use lib.Bits.{bit_and, and_high}
use lib.Dec.{leb}
use lib.Pow.{pow_pos, pow_mono, pow-add, shl_exact, high, suc_ones}
use Rattle.number.proofs.Steps.{below_or_not}
use Rattle.layout.specs.PlaceSets.{places_from, is_in}

-- ---- the bit of a place

-- 1 << p in 32 bits
pub bit_low : (p : ℕ) → p < 32 → 1 * 2 ^ p % 2 ^ 32 ≡ 2 ^ p
bit_low p h = shl_exact {a = 1} 1 p 32 (omega arith) (omega arith) ∙ one-mul (2 ^ p)

-- 1 << (p - 32), then moved up by 32
pub bit_high : (p : ℕ) → 32 ≤ p → p < 64 → 1 * 2 ^ (p - 32) % 2 ^ 32 * 2 ^ 32 ≡ 2 ^ p
bit_high p l h =
    let e : p - 32 + 32 ≡ p = omega arith in
    ap (λ n. n * 2 ^ 32) (bit_low (p - 32) (omega arith)) ∙ rw e at (sym (pow-add 2 (p - 32) 32))

-- ---- whether it is in a set

bit_of : (m p : ℕ) → bit_and m (2 ^ p) ≡ m / 2 ^ p % 2 * 2 ^ p
bit_of m p = let e : 2 ^ (1 + p) - 2 ^ p ≡ 2 ^ p = omega (arith, pow-add 2 1 p) in rw e at (and_high m 1 p)

module _ (p h r : ℕ) (l : r < 2 ^ p) where
  bit_at : bit_and (h * 2 ^ p + r) (2 ^ p) ≡ h % 2 * 2 ^ p
  bit_at = bit_of (h * 2 ^ p + r) p ∙ rw (high h p l)

  is_in_lem : h % 2 ≡ 1 → is_in (2 ^ p) (h * 2 ^ p + r) ≡ true
  is_in_lem e = rw (bit_at, e) (lt-ltb 0 (1 * 2 ^ p) (omega (arith, pow_pos p)))

  is_out : h % 2 ≡ 0 → is_in (2 ^ p) (h * 2 ^ p + r) ≡ false
  is_out e = rw (bit_at, e) (le-ltb 0 (0 * 2 ^ p) (omega arith))

-- ---- a range of places

module _ (a b p : ℕ) where
  range_past : b < p → is_in (2 ^ p) (2 ^ suc b - 2 ^ a) ≡ false
  range_past h =
      let m : 2 ^ suc b - 2 ^ a ≡ 0 * 2 ^ p + (2 ^ suc b - 2 ^ a) = omega (arith, zero-mul (2 ^ p)) in
      rw m (is_out p 0 (2 ^ suc b - 2 ^ a) (omega (arith, pow_mono {i = suc b} {j = p} h, pow_pos a, pow_pos p)) refl)

  range_before : p < a → p ≤ b → is_in (2 ^ p) (2 ^ suc b - 2 ^ a) ≡ false
  range_before l u =
      let x : ℕ = 2 ^ suc (b - p) in
      let y : ℕ = 2 ^ suc (a - suc p) in
      let e : suc (b - p) + p ≡ suc b = omega arith in
      let f : suc (a - suc p) + p ≡ a = omega arith in
      let d : (x - y) * 2 ^ p ≡ x * 2 ^ p - y * 2 ^ p = mul_comm (x - y) (2 ^ p) ∙ mul-sub (2 ^ p) x y ∙ rw (mul_comm (2 ^ p) x, mul_comm (2 ^ p) y) in
      let m : 2 ^ suc b - 2 ^ a ≡ (x - y) * 2 ^ p + 0 = omega (arith, rw e at (pow-add 2 (suc (b - p)) p), rw f at (pow-add 2 (suc (a - suc p)) p)) in
      rw m (is_out p (x - y) 0 (pow_pos p) (omega (arith, pow-suc 2 (b - p), pow-suc 2 (a - suc p))))

  range_in : a ≤ p → p ≤ b → is_in (2 ^ p) (2 ^ suc b - 2 ^ a) ≡ true
  range_in l u =
      let h : ℕ = 2 ^ suc (b - p) - 1 in
      let e : suc (b - p) + p ≡ suc b = omega arith in
      let m : 2 ^ suc b - 2 ^ a ≡ h * 2 ^ p + (2 ^ p - 2 ^ a) =
      omega (arith, rw (e, ← suc_ones (suc (b - p)), suc-mul h (2 ^ p)) at (pow-add 2 (suc (b - p)) p), pow_mono {i = a} {j = p} l) in
      rw m (is_in_lem p h (2 ^ p - 2 ^ a) (omega (arith, pow_pos a, pow_pos p)) (omega (arith, pow-suc 2 (b - p), pow_pos (b - p))))

-- the set of a range that ends by 60
pub range_is : (a b : ℕ) → b ≤ 60 → places_from a b ≡ 2 ^ suc b - 2 ^ a
range_is a b h = rw (le-leb b 60 h)

-- and of one that does not
pub range_late : (a b : ℕ) → 60 < b → places_from a b ≡ 0
range_late a b h = rw (lt-leb b 60 h)

-- and where it ends before it begins
pub range_none : (a b : ℕ) → b < a → places_from a b ≡ 0
range_none a b h = elim (below_or_not 60 b) [
  | inl late ↦ range_late a b late
  | inr few ↦ range_is a b few ∙ omega (arith, pow_mono {i = suc b} {j = a} h)
]

-- the places from a to b are those of the set
pub in_places : (a b p : ℕ) → b ≤ 60 → is_in (2 ^ p) (places_from a b) ≡ (leb a p && leb p b)
in_places a b p few = ap (is_in (2 ^ p)) (range_is a b few) ∙ elim (below_or_not b p) [
  | inl past ↦ range_past a b p past ∙ sym (rw (lt-leb p b past) (and-false (leb a p)))
  | inr within ↦ elim (below_or_not p a) [
    | inl before ↦ range_before a b p before within ∙ sym (rw (lt-leb a p before))
    | inr behind ↦ range_in a b p behind within ∙ sym (rw (le-leb a p behind, le-leb p b within))
  ]
]
