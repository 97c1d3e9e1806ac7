-- A filled table and the entries of all indices: the same, said entry by entry and index by index.
-- Assumes nothing.
use Prim.Native.Nat.{ℕ, suc, ◌+◌, ◌-◌, ◌*◌, ◌/◌, ◌%◌, ◌≤◌, ◌<◌}
use mathlib.Core.List.{List}
use mathlib.Core.Logic.{inl, inr}
use mathlib.Core.Path.{◌≡◌, sym, ap, ap₂, ◌∙◌}
use native.Mathlib.Nat.{div-add-mod', mod-lt, div-lt_iff_lt-mul, mul-le-mul, suc-mul}
use native.Mathlib.Omega.{arith}
use lib.Arith.{digits_div, digits_mod}
use lib.ListN.{length, get_or}
use borrow.Author.Tests.{lt-ltb, le-ltb}
use Rattle.number.proofs.Steps.{below_or_not}
use Rattle.sequencing.specs.Problem.{Problem}
use Rattle.sequencing.specs.States.{all_left}
use Rattle.sequencing.specs.Recursion.{value}
use Rattle.sequencing.specs.Entries.{digits, block, entries, entry_kind, entry_left, stored, filled_entry, FilledTable}
use Rattle.sequencing.proofs.Radix.{size_pos}
use Rattle.filling.specs.Filling.{Earlier}

-- the entry of (L; k) is below N × P
pub entry_below : (P : Problem) (L j : ℕ) → 1 ≤ L → L ≤ P.N → j < block P → (L - 1) * block P + j < entries P
entry_below P L j l u h =
    omega (arith, suc-mul (L - 1) (block P), mul-le-mul {n₁ = suc (L - 1)} {m₁ = block P} {n₂ = P.N} {m₂ = block P} (omega arith) (omega arith))

-- a filled table holds every state's value
pub all_filled : {P : Problem} {old table : List ℕ} → FilledTable P old table → Earlier P table (block P)
unfolding entry_kind entry_left
all_filled {P} f L j l u h =
    let n = (L - 1) * block P + j in
    let kind : suc (n / block P) ≡ L = omega (arith, digits_div (L - 1) h) in
    f.entries_are n ∙ rw (lt-ltb n (entries P) (entry_below P L j l u h))
    (ap stored (ap₂ (λ (L' j' : ℕ). value P L' (digits (all_left P) j')) kind (digits_mod (L - 1) h)))

module _ (P : Problem) (old table : List ℕ) (long : length table ≡ length old) (all : Earlier P table (block P)) (past : (n : ℕ) → entries P ≤ n → get_or table n 0 ≡ get_or old n 0) where
  entry_filled : (n : ℕ) → get_or table n 0 ≡ filled_entry P old n
  unfolding entry_kind entry_left
  entry_filled n = elim (below_or_not n (entries P)) [
    | inl b ↦ (let high : suc (n / block P) ≤ P.N = (div-lt_iff_lt-mul {k = block P} {x = n} {y = P.N} (size_pos (all_left P))).1 b in
        let e : suc (n / block P) - 1 ≡ n / block P = omega arith in
        let there : (suc (n / block P) - 1) * block P + n % block P ≡ n = rw e (div-add-mod' n (block P)) in
        rw (lt-ltb n (entries P) b) (ap (λ (m : ℕ). get_or table m 0) (sym there) ∙ all (suc (n / block P)) (n % block P) (omega arith) high (mod-lt n (size_pos (all_left P)))))
    | inr b ↦ rw (le-ltb n (entries P) b) (past n b)
  ]

  -- and a table that holds them all is filled
  pub filled_table : FilledTable P old table
  filled_table = record { long = long; entries_are = entry_filled }
