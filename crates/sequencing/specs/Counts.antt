-- The count of feasible states.
use mathlib.Core.List.{List, [], ◌∷◌, map, Memᴰ}
use Rattle.std.specs.Prelude.{◌↔◌, ◌≡◌, ℕ, length}
use Rattle.std.proofs.Math.Option.{Option, none, some}
use Rattle.sequencing.specs.Lists.{from, sum}
use Rattle.sequencing.specs.Problem.{Problem}
use Rattle.sequencing.specs.States.{IsState}
use Rattle.sequencing.specs.Feasible.{Feasible}
use Rattle.sequencing.specs.Entries.{entries, entry}

-- no element stands twice
unfoldable pub NoRepeats : {A : Type 0} → List A → Type 0
NoRepeats [] = Unit {0}
NoRepeats (x ∷ xs) = (Memᴰ x xs → ⊥) × NoRepeats xs

-- 01's kept count is n: n is the length of a list without repeats in which a pair stands exactly when it is a state and feasible
pub record CountsFeasible (P : Problem) (n : ℕ) : Type 0 where
  pub states : List (ℕ × List ℕ)
  pub distinct : NoRepeats states
  pub exactly : (L : ℕ) (k : List ℕ) → Memᴰ (L, k) states ↔ (IsState P L k × Feasible P L k)
  pub many : length states ≡ n

-- the same of any pairs: n is the number of those of which Q holds
pub record CountsPairs (Q : ℕ → List ℕ → Type 0) (n : ℕ) : Type 0 where
  pub pairs : List (ℕ × List ℕ)
  pub distinct : NoRepeats pairs
  pub exactly : (L : ℕ) (k : List ℕ) → Memᴰ (L, k) pairs ↔ Q L k
  pub many : length pairs ≡ n

-- 1 for a value, 0 for none
abbrev pub valued : Option ℕ → ℕ
valued none = 0
valued (some c) = 1

-- the number of entries that hold a value
unfoldable pub feasible_states : Problem → ℕ
feasible_states P = sum (map (λ n. valued (entry P n)) (from 0 (entries P)))
