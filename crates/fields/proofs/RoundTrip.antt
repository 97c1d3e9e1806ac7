-- Reading what was written gives the number, and writing what was read gives the bytes, for any number of groups.
-- Assumes nothing.
use Prim.Native.Nat.{ℕ, zero, suc, ◌+◌, ◌-◌, ◌*◌, ◌/◌, ◌%◌, ◌^◌, ◌<◌, ◌≤◌}
use mathlib.Core.Path.{◌≡◌, refl, sym, ap, ap₂, ◌∙◌}
use mathlib.Core.Bool.{Bool, true, false, false≢true}
use mathlib.Core.Logic.{inl, inr}
use mathlib.Core.List.{List, [], ◌∷◌, ◌++◌}
use native.Mathlib.Omega.{arith}
use native.Mathlib.Nat.{pow-suc, one-le-pow}
use lib.Dec.{ltb, eqb}
use lib.ListN.{length, drop}
use lib.Seq.{get_or-drop, drop-drop}
use borrow.Author.Tests.{lt-ltb, le-ltb, ltb-true, ltb-false, ne_eqb, eqb-false}
use Rattle.number.specs.Readers.{Found, found, refused}
use Rattle.number.specs.Numbers.{above, last, groups_at, number, encode}
use Rattle.number.proofs.Steps.{bool_cases, below_or_not, found_value, found_next, not_found}
use Rattle.number.proofs.Encoding.{encode_small, encode_large, within}
use Rattle.fields.specs.Lists.{Bytes}

-- a group in a byte of its own is the number's last
single : (first : Bool) (v n : ℕ) → (first ≡ false → 0 < v) → last first v n ≡ found v n
single true v n h = refl
single false v n h = rw (ne_eqb v 0 (omega (arith, h refl)))

read_groups : (first : Bool) (g p v : ℕ) (rest : List ℕ) → 0 < g → (first ≡ false → 0 < v) → v < 128 ^ g
    → groups_at first g p (encode v ++ rest) ≡ found v (p + length (encode v))
unfolding groups_at
read_groups first zero p v rest z h k = absurd (omega arith)
read_groups first (suc zero) p v rest z h k = rw (encode_small v k, lt-ltb v 128 k) (single first v (p + 1) h)
read_groups first (suc (suc g)) p v rest z h k = elim (below_or_not v 128) [
  | inl l ↦ rw (encode_small v l, lt-ltb v 128 l) (single first v (p + 1) h)
  | inr l ↦ rw (encode_large v l, le-ltb (v % 128 + 128) 128 (omega arith), read_groups false (suc g) (p + 1) (v / 128) rest (omega arith) (λ _. omega arith) (within (suc g) v k))
      (ap₂ found (omega arith) (omega arith))
]

-- reading what was written gives the number and the position behind it
pub number_written : (g : ℕ) (s : List ℕ) (at v : ℕ) (rest : List ℕ) → 0 < g → v < 128 ^ g → drop at s ≡ encode v ++ rest
    → number g s at ≡ found v (at + length (encode v))
number_written g s at v rest z k e = rw e (read_groups true g at v rest z (λ q. absurd (false≢true (sym q))) k)

-- ---- what was found, group by group

last_is : (first : Bool) (b m v n : ℕ) → last first b m ≡ found v n → (b ≡ v) × (m ≡ n) × (first ≡ false → 0 < v)
last_is true b m v n e = (found_value b v m n e, found_next b v m n e, λ q. absurd (false≢true (sym q)))
last_is false b m v n e = elim (bool_cases (eqb b 0)) [
  | inl q ↦ not_found _ v n (rw q at e)
  | inr q ↦ (let h : found b m ≡ found v n = rw q at e in
      let same = found_value b v m n h in
      (same, found_next b v m n h, λ _. omega (arith, eqb-false b 0 q)))
]

above_is : (low : ℕ) (f : Found ℕ) (v n : ℕ) → above low f ≡ found v n → (w : ℕ) × (f ≡ found w n) × (v ≡ low + 128 * w)
above_is low (found w m) v n e = (w, ap (found w) (found_next (low + 128 * w) v m n e), sym (found_value (low + 128 * w) v m n e))
above_is low (refused r) v n e = not_found r v n e

-- n is the position behind v, whose groups from position p on may be any numbers, bytes or not
pub record Ends (first : Bool) (g p v n : ℕ) : Type 0 where
  pub most : n ≤ p + g
  pub small : (w : ℕ) → 0 < w → v < 128 ^ w → n ≤ p + w
  pub canonical : first ≡ false → 0 < v

-- one group more
longer : (v high p n : ℕ) → 0 < high → 128 * high ≤ v → ((w : ℕ) → 0 < w → high < 128 ^ w → n ≤ p + 1 + w) → (w : ℕ) → 0 < w → v < 128 ^ w → n ≤ p + w
longer v high p n some least rest zero z h = absurd (omega arith)
longer v high p n some least rest (suc zero) z h = absurd (omega arith)
longer v high p n some least rest (suc (suc w)) z h = omega (arith, rest (suc w) (omega arith) (omega (arith, pow-suc 128 (suc w))))

ends_groups : (first : Bool) (g p : ℕ) (s : List ℕ) (v n : ℕ) → groups_at first g p s ≡ found v n → Ends first g p v n
unfolding groups_at
ends_groups first zero p s v n e = not_found _ v n e
ends_groups first (suc g) p [] v n e = not_found _ v n e
ends_groups first (suc g) p (b ∷ s) v n e = elim (bool_cases (ltb b 128)) [
  | inl t ↦ (let q = last_is first b (p + 1) v n (rw t at e) in
      record { most = omega (arith, q.1); small = λ w z h. omega (arith, q.1); canonical = q.2 })
  | inr t ↦ (let q = above_is (b - 128) (groups_at false g (p + 1) s) v n (rw t at e) in
      let i = ends_groups false g (p + 1) s q.0 n q.1 in
      let pos : 0 < q.0 = i.canonical refl in
      record {
        most = omega (arith, i.most);
        small = longer v q.0 p n pos (omega (arith, q.2)) i.small;
        canonical = λ _. omega (arith, q.2);
      })
]

-- the bytes from position p on are those of v and no others, and n is the position behind them
pub record Written (g p : ℕ) (s : List ℕ) (v n : ℕ) : Type 0 where
  pub bytes : s ≡ encode v ++ drop (length (encode v)) s
  pub next : n ≡ p + length (encode v)
  pub small : v < 128 ^ g

written_groups : (first : Bool) (g p : ℕ) (s : List ℕ) (v n : ℕ) → Bytes s → groups_at first g p s ≡ found v n → Written g p s v n
unfolding groups_at
written_groups first zero p s v n all e = not_found _ v n e
written_groups first (suc g) p [] v n all e = not_found _ v n e
written_groups first (suc g) p (b ∷ s) v n all e = elim (bool_cases (ltb b 128)) [
  | inl t ↦ (let q = last_is first b (p + 1) v n (rw t at e) in
      let small : v < 128 = omega (arith, ltb-true b 128 t, q.0) in
      record {
        bytes = rw (encode_small v small) (ap (λ (x : ℕ). x ∷ s) q.0);
        next = rw (encode_small v small) (omega (arith, q.1));
        small = omega (arith, pow-suc 128 g, one-le-pow g 128 (omega arith));
      })
  | inr t ↦ (let q = above_is (b - 128) (groups_at false g (p + 1) s) v n (rw t at e) in
      let i = written_groups false g (p + 1) s q.0 n (λ i. all (suc i)) q.1 in
      let large : 128 ≤ b = ltb-false b 128 t in
      let byte : b < 256 = all 0 in
      let pos : 0 < q.0 = (ends_groups false g (p + 1) s q.0 n q.1).canonical refl in
      let big : 128 ≤ v = omega (arith, q.2) in
      let low : v % 128 + 128 ≡ b = omega (arith, q.2) in
      let high : v / 128 ≡ q.0 = omega (arith, q.2) in
      record {
        bytes = rw (encode_large v big, low, high) (ap (λ (x : List ℕ). b ∷ x) i.bytes);
        next = rw (encode_large v big, high) (omega (arith, i.next));
        small = omega (arith, q.2, i.small, pow-suc 128 g);
      })
]

-- ---- a number read at a position

-- where it ends: behind g groups at most, and behind w where it is below 128 ^ w
pub number_ends : (g : ℕ) (s : List ℕ) (at v n : ℕ) → number g s at ≡ found v n → (n ≤ at + g) × ((w : ℕ) → 0 < w → v < 128 ^ w → n ≤ at + w)
number_ends g s at v n e = let i = ends_groups true g at (drop at s) v n e in (i.most, i.small)

-- writing what was read gives the bytes read; and a number in at most g groups is below 128 ^ g
pub record NumberRead (g : ℕ) (s : List ℕ) (at v n : ℕ) : Type 0 where
  pub bytes : drop at s ≡ encode v ++ drop n s
  pub next : n ≡ at + length (encode v)
  pub small : v < 128 ^ g

pub number_read : (g : ℕ) (s : List ℕ) (at v n : ℕ) → Bytes s → number g s at ≡ found v n → NumberRead g s at v n
number_read g s at v n all e =
    let w = written_groups true g at (drop at s) v n (λ i. rw get_or-drop (all (at + i))) e in
    record {
      bytes = w.bytes ∙ ap (λ (x : List ℕ). encode v ++ x) (drop-drop (length (encode v)) at s ∙ ap (λ (k : ℕ). drop k s) (sym w.next));
      next = w.next;
      small = w.small;
    }
