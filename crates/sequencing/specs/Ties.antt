-- The tie rule: the smallest kind that reaches the least is taken each time.
use Rattle.std.specs.Prelude.{List, [], ◌∷◌, ◌⊎◌, ◌≢◌, ◌≡◌, ℕ, ◌≤◌, ◌<◌}
use Rattle.std.proofs.Math.Option.{Option, some}
use Rattle.sequencing.specs.Problem.{Problem}
use Rattle.sequencing.specs.States.{complete}
use Rattle.sequencing.specs.Recursion.{cost_to_go, choice}

-- of the kinds 1 to n, x is the smallest at which f is c, and f is nowhere less
pub record Smallest (f : ℕ → Option ℕ) (n x c : ℕ) : Type 0 where
  pub low : 1 ≤ x
  pub high : x ≤ n
  pub reached : f x ≡ some c
  pub bound : (y d : ℕ) → 1 ≤ y → y ≤ n → f y ≡ some d → c ≤ d
  pub first : (y : ℕ) → 1 ≤ y → y < x → f y ≢ some c

-- 01's tie rule along the kinds taken from (L; k) on: each is the smallest that reaches its state's least
unfoldable pub TieRule : Problem → ℕ → List ℕ → List ℕ → Type 0
TieRule P L k [] = Unit {0}
TieRule P L k (x ∷ xs) = (c : ℕ) × (cost_to_go P L k ≡ some c) × Smallest (choice P L k) P.N x c × TieRule P x (complete k x) xs

-- two sequences of kinds are the same, or the first has the smaller kind at the first place where they differ
unfoldable pub Precedes : List ℕ → List ℕ → Type 0
Precedes [] [] = Unit {0}
Precedes [] (y ∷ ys) = ⊥
Precedes (x ∷ xs) [] = ⊥
Precedes (x ∷ xs) (y ∷ ys) = (x < y) ⊎ ((x ≡ y) × Precedes xs ys)
