-- Lists of numbers, and the arrays that hold them.
use Rattle.std.specs.Prelude.{ℕ, zero, suc, ◌<◌, Bool, false, ◌||◌, List, [], ◌∷◌, eqb, get_or, replicate}
use Rattle.std.proofs.lemmas.List.Edits.{sets}

-- a message is bytes: each number is below 256
abbrev pub Bytes : List ℕ → Type 0
Bytes s = (i : ℕ) → get_or s i 0 < 256

-- f i, f (i + 1), ..: n of them
unfoldable pub tabulate : {A : Type 0} → (ℕ → A) → ℕ → ℕ → List A
tabulate f i zero = []
tabulate f i (suc n) = f i ∷ tabulate f (suc i) n

-- an array of n numbers: those of a list, and 0 past them
abbrev pub filled : ℕ → List ℕ → List ℕ
filled n vs = sets (replicate n 0) 0 vs

-- a number stands in a list
unfoldable pub stands_in : ℕ → List ℕ → Bool
stands_in j [] = false
stands_in j (i ∷ is) = eqb j i || stands_in j is
