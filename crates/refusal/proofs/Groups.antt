-- Which group a number has, by its range.
-- Assumes nothing.
use Prim.Native.Nat.{ℕ, ◌≤◌, ◌<◌}
use mathlib.Core.Path.{◌≡◌}
use native.Mathlib.Omega.{arith}
use borrow.Author.Tests.{ne_eqb, eq-eqb, le-leb, lt-leb}
use Rattle.refusal.specs.declared.Group.TheVariants.{Message, Contents, Room, Unprinted}
use Rattle.refusal.specs.Reasons.{number_group}

module _ (r : ℕ) where
  pub in_message : 1 ≤ r → r ≤ 4 → Message ≡ number_group r
  unfolding number_group
  in_message l u = rw (ne_eqb r 0 (omega arith), le-leb r 4 u)

  pub in_contents : 5 ≤ r → r ≤ 13 → Contents ≡ number_group r
  unfolding number_group
  in_contents l u = rw (ne_eqb r 0 (omega arith), lt-leb r 4 l, le-leb r 13 u)

  pub in_room : 15 ≤ r → r ≤ 16 → Room ≡ number_group r
  unfolding number_group
  in_room l u = rw (ne_eqb r 0 (omega arith), lt-leb r 4 (omega arith), lt-leb r 13 (omega arith), lt-leb r 14 l, le-leb r 16 u)

  pub none_low : r < 1 → Unprinted ≡ number_group r
  unfolding number_group
  none_low l = rw (eq-eqb r 0 (omega arith))

  pub none_high : 17 < r → Unprinted ≡ number_group r
  unfolding number_group
  none_high l = rw (ne_eqb r 0 (omega arith), lt-leb r 4 (omega arith), lt-leb r 13 (omega arith), lt-leb r 14 (omega arith), lt-leb r 16 (omega arith), lt-leb r 17 l)
