-- The table's entries: where the pair (L; k) stands, and what stands there.
use Rattle.std.specs.Prelude.{cond, List, [], ◌∷◌, ◌≡◌, ℕ, zero, suc, pred, ◌+◌, ◌*◌, ◌/◌, ◌%◌, ◌-◌, ◌^◌, ltb, length, get_or}
use Rattle.std.proofs.Math.Option.{Option, none, some}
use Rattle.sequencing.specs.Problem.{Problem}
use Rattle.sequencing.specs.States.{all_left}
use Rattle.sequencing.specs.Recursion.{value}

-- the product of all (c_j + 1)
unfoldable pub size : List ℕ → ℕ
size [] = 1
size (c ∷ cs) = suc c * size cs

-- k_1 + (c_1 + 1) × (k_2 + (c_2 + 1) × (k_3 + ..))
unfoldable pub index : List ℕ → List ℕ → ℕ
index [] k = 0
index (c ∷ cs) [] = 0
index (c ∷ cs) (a ∷ k) = a + suc c * index cs k

-- the k whose index is i
unfoldable pub digits : List ℕ → ℕ → List ℕ
digits [] i = []
digits (c ∷ cs) i = (i % suc c) ∷ digits cs (i / suc c)

-- what one job of kind x counts for in an index: (c_1 + 1) × .. × (c_(x−1) + 1)
unfoldable pub stride : List ℕ → ℕ → ℕ
stride cs zero = 0
stride [] (suc i) = 0
stride (c ∷ cs) (suc zero) = 1
stride (c ∷ cs) (suc (suc i)) = suc c * stride cs (suc i)

-- a value as the table holds it: 2^64 − 1 where there is none
abbrev pub stored : Option ℕ → ℕ
stored none = 2 ^ 64 - 1
stored (some c) = c

module _ (P : Problem) where
  -- 01's P
  abbrev pub block : ℕ
  block = size (all_left P)

  -- 01's N × P
  abbrev pub entries : ℕ
  entries = P.N * block

  -- the k of this queue whose index is i
  abbrev pub k_at : ℕ → List ℕ
  k_at i = digits (all_left P) i

  -- where (L; k) stands, by 01's formula: (L − 1) × P + k_1 + (K_1 + 1) × (k_2 + ..)
  unfoldable pub number : ℕ → List ℕ → ℕ
  number L k = pred L * block + index (all_left P) k

  -- L of the pair whose entry is n
  unfoldable pub entry_kind : ℕ → ℕ
  entry_kind n = suc (n / block)

  -- k of that pair
  unfoldable pub entry_left : ℕ → List ℕ
  entry_left n = k_at (n % block)

  -- the value that entry n holds: its pair's, none where that is none, so also where k_L = K_L
  abbrev pub entry : ℕ → Option ℕ
  entry n = value P (entry_kind n) (entry_left n)

  -- a filled table's entry n: below N × P the value of its state, 2^64 − 1 where there is none; from there on as it was
  abbrev pub filled_entry : List ℕ → ℕ → ℕ
  filled_entry table n = cond (ltb n entries) (stored (entry n)) (get_or table n 0)

  -- a table before and after it was filled, entry by entry
  pub record FilledTable (table table' : List ℕ) : Type 0 where
    pub long : length table' ≡ length table
    pub entries_are : (n : ℕ) → get_or table' n 0 ≡ filled_entry table n
