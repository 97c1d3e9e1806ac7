-- The bytes of a number: one group at a time, how many there are, and that each is a byte.
-- Assumes nothing.
use Prim.Native.Nat.{ℕ, zero, suc, ◌+◌, ◌/◌, ◌%◌, ◌^◌, ◌<◌, ◌≤◌}
use mathlib.Core.Path.{◌≡◌, refl, ap}
use mathlib.Core.Bool.{Bool, true, false}
use mathlib.Core.Logic.{inl, inr}
use mathlib.Core.List.{List, [], ◌∷◌}
use native.Mathlib.Omega.{arith}
use native.Mathlib.Nat.{pow-suc, div-lt_iff_lt-mul}
use lib.Dec.{ltb}
use lib.ListN.{length}
use borrow.Author.Tests.{lt-ltb, le-ltb, ltb-false}
use Rattle.number.specs.Numbers.{groups, encode}
use Rattle.number.proofs.Steps.{below_or_not}

-- more steps than the number asks give the same groups
enough : (a b v : ℕ) → v < a → v < b → groups a v ≡ groups b v
unfolding groups
enough zero b v h l = absurd (omega arith)
enough (suc a) zero v h l = absurd (omega arith)
enough (suc a) (suc b) v h l = go (ltb v 128) refl (λ m. enough a b (v / 128) (omega arith) (omega arith))
  where
    go : (t : Bool) → ltb v 128 ≡ t → (128 ≤ v → groups a (v / 128) ≡ groups b (v / 128)) → groups (suc a) v ≡ groups (suc b) v
    go true e ih = rw e
    go false e ih = rw (e, ih (ltb-false v 128 e))

pub encode_small : (v : ℕ) → v < 128 → encode v ≡ v ∷ []
unfolding encode groups
encode_small v h = rw (lt-ltb _ _ h)

pub encode_large : (v : ℕ) → 128 ≤ v → encode v ≡ (v % 128 + 128) ∷ encode (v / 128)
unfolding encode groups
encode_large v h = rw (le-ltb v 128 h) (ap (λ (x : List ℕ). (v % 128 + 128) ∷ x) (enough v (suc (v / 128)) (v / 128) (omega arith) (omega arith)))

pub within : (g v : ℕ) → v < 128 ^ suc g → v / 128 < 128 ^ g
within g v h = (div-lt_iff_lt-mul {k = 128} {x = v} {y = 128 ^ g} (omega arith)).1 (rw pow-suc at h)

pub some_byte : (v : ℕ) → 0 < length (encode v)
some_byte v = elim (below_or_not v 128) [ inl h ↦ rw (encode_small v h) (omega arith) | inr h ↦ rw (encode_large v h) (omega arith) ]

-- a number below 128 ^ g has at most g groups
pub length_encode : (g v : ℕ) → 0 < g → v < 128 ^ g → length (encode v) ≤ g
length_encode zero v z h = absurd (omega arith)
length_encode (suc zero) v z h = rw (encode_small v h) (omega arith)
length_encode (suc (suc g)) v z h = elim (below_or_not v 128) [
  | inl l ↦ rw (encode_small v l) (omega arith)
  | inr l ↦ rw (encode_large v l) (omega (arith, length_encode (suc g) (v / 128) (omega arith) (within (suc g) v h)))
]
