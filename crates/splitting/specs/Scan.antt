-- What a loop over all counts in the table's order finds: there kind 1 is the fastest, while 02's ties go by kind 1 first.
use Rattle.std.specs.Prelude.{Bool, false, cond, List, [], ◌∷◌, map, ◌≡◌, ℕ, ◌-◌, ◌≤◌, ◌<◌, ltb, eqb}
use Rattle.std.proofs.Math.Option.{Option, none, some}
use Rattle.sequencing.specs.Lists.{at, upto}
use Rattle.sequencing.specs.Problem.{Problem}
use Rattle.sequencing.specs.States.{K}
use Rattle.sequencing.specs.Entries.{digits}
use Rattle.sequencing.specs.Ties.{Precedes}

-- whether a comes before b: less at the first kind where they differ
unfoldable pub is_before : List ℕ → List ℕ → Bool
is_before [] b = false
is_before (x ∷ a) [] = false
is_before (x ∷ a) (y ∷ b) = cond (eqb x y) (is_before a b) (ltb x y)

-- how many of each kind the second cutter has where the first has n: K_j − n_j
unfoldable pub others : Problem → List ℕ → List ℕ
others P n = map (λ j. K P j - at n j) (upto P.N)

-- none of the counts whose index is below i has a cost
abbrev pub NoneHeld : (f : ℕ → Option ℕ) (i : ℕ) → Type 0
NoneHeld f i = (j : ℕ) → j < i → f j ≡ none

-- of the counts whose index is below i, those with index k are the first of the least cost c
pub record Held (f : ℕ → Option ℕ) (cs : List ℕ) (i k c : ℕ) : Type 0 where
  pub reached : f k ≡ some c
  pub bound : (j d : ℕ) → j < i → f j ≡ some d → c ≤ d
  pub first : (j : ℕ) → j < i → f j ≡ some c → Precedes (digits cs k) (digits cs j)
