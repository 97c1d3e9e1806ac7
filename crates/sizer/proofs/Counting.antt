-- The loop over the kinds: the states and the product so far are those of the kinds passed.
-- Assumes nothing.
use Prim.Native.Nat.{ℕ, suc, ◌+◌, ◌*◌, ◌^◌, ◌≤◌, ◌<◌}
use mathlib.Core.List.{List}
use mathlib.Core.Path.{◌≡◌, refl, sym}
use native.Mathlib.Nat.{suc-mul, add-mul, mul_assoc, mul-le-mul, pow-suc, pow-le-pow_right}
use native.Mathlib.Omega.{arith}
use lib.ListN.{length, get_or, get_or-map, take}
use Rattle.std.proofs.lemmas.List.{map_more}
use Rattle.sequencing.specs.Entries.{size}
use Rattle.sequencing.proofs.Radix.{size_more}
use Rattle.jobs_left.specs.declared.Kind.{Kind}
use Rattle.jobs_left.specs.Kinds.{no_kind, counts_of}
use Rattle.state_count.specs.StateCount.{most_feasible}
use Rattle.state_count.proofs.MoreKinds.{most_none, most_more}

-- ---- how large they become

-- one kind more, of at most 60 jobs, makes the product at most 61 times as large ..
pub product_most : (j n product : ℕ) → n ≤ 60 → product ≤ 61 ^ j → product * (n + 1) ≤ 61 ^ (j + 1)
product_most j n product few p =
    let f : j + 1 ≡ suc j = omega arith in
    rw (f, pow-suc 61 j) (mul-le-mul {n₁ = product} {m₁ = n + 1} {n₂ = 61 ^ j} {m₂ = 61} p (omega (arith, few)))

-- .. and the states, with room for one job more
pub states_most : (j n states product : ℕ) → n ≤ 60 → states ≤ j * 61 ^ j → product ≤ 61 ^ j → states * (n + 1) + (n + 1) * product ≤ (j + 1) * 61 ^ (j + 1)
states_most j n states product few s p =
    let f : j + 1 ≡ suc j = omega arith in
    rw (f, suc-mul j (61 ^ suc j), pow-suc 61 j) (omega (
      arith,
      mul-le-mul {n₁ = states} {m₁ = n + 1} {n₂ = j * 61 ^ j} {m₂ = 61} s (omega (arith, few)),
      mul-le-mul {n₁ = n + 1} {m₁ = product} {n₂ = 61} {m₂ = 61 ^ j} (omega (arith, few)) p,
      mul_assoc j (61 ^ j) 61,
    ))

-- both fit for five kinds
pub fits_product : (j : ℕ) → j < 5 → 61 ^ (j + 1) < 2 ^ 64
fits_product j h = omega (arith, pow-le-pow_right {n = 61} (omega arith) {i = j + 1} {j = 5} (omega arith))

pub fits_states : (j : ℕ) → j < 5 → (j + 1) * 61 ^ (j + 1) < 2 ^ 64
fits_states j h = omega (
  arith,
  mul-le-mul {n₁ = j + 1} {m₁ = 61 ^ (j + 1)} {n₂ = 5} {m₂ = 61 ^ 5} (omega arith) (pow-le-pow_right {n = 61} (omega arith) {i = j + 1} {j = 5} (omega arith)),
)

-- ---- the loop

-- at most 61 for each kind in the product, and as much for each kind in the states
pub record Counting (kinds : List Kind) (states product j : ℕ) : Type 0 where
  pub states_are : states ≡ most_feasible (counts_of (take j kinds))
  pub product_is : product ≡ size (counts_of (take j kinds))
  pub states_small : states ≤ j * 61 ^ j
  pub product_small : product ≤ 61 ^ j

pub counting_none : {kinds : List Kind} → Counting kinds 0 1 0
unfolding size
counting_none = record { states_are = sym most_none; product_is = refl; states_small = omega arith; product_small = omega arith }

module _ {kinds : List Kind} {states product j : ℕ} (w : Counting kinds states product j) (h : j < length kinds) (few : get_or (counts_of kinds) j 0 ≤ 60) where
  abbrev n : ℕ
  n = (get_or kinds j no_kind).count

  small : n ≤ 60
  small = omega (arith, get_or-map (λ (kind : Kind). kind.count) kinds j no_kind)

  more_product : product * (n + 1) ≤ 61 ^ (j + 1)
  more_product = product_most j n product small w.product_small

  more_states : states * (n + 1) + n * product ≤ (j + 1) * 61 ^ (j + 1)
  more_states = omega (arith, states_most j n states product small w.states_small w.product_small, suc-mul n product, add-mul n 1 product)

  pub states_fit : length kinds ≤ 5 → states * (n + 1) + n * product < 2 ^ 64
  states_fit l = omega (arith, more_states, fits_states j (omega arith))

  pub product_fits : length kinds ≤ 5 → product * (n + 1) < 2 ^ 64
  product_fits l = omega (arith, more_product, fits_product j (omega arith))

  pub counting_more : Counting kinds (states * (n + 1) + n * product) (product * (n + 1)) (j + 1)
  counting_more =
      let f : n + 1 ≡ suc n = omega arith in
      let m = map_more (λ (kind : Kind). kind.count) kinds j no_kind h in
      record {
        states_are = rw (m, most_more (counts_of (take j kinds)) n, w.states_are, w.product_is, f);
        product_is = rw (m, size_more (counts_of (take j kinds)) n, w.product_is, f);
        states_small = more_states;
        product_small = more_product;
      }
