-- The states (L; k): L is the kind just completed, and k has the number of jobs left of each kind.
use Rattle.std.specs.Prelude.{List, [], ◌∷◌, map, ◌≡◌, ℕ, zero, suc, pred, ◌-◌, ◌≤◌, ◌<◌, eqb, length, get_or, set}
use Rattle.sequencing.specs.Lists.{at, upto, sum, filter}
use Rattle.sequencing.specs.Problem.{Problem, T, kind}

-- k with k_x less one: a job of x is completed (01: cut)
abbrev pub complete : List ℕ → ℕ → List ℕ
complete k zero = k
complete k (suc i) = set k i (pred (get_or k i 0))

module _ (P : Problem) where
  -- the jobs of kind j, by hand-in
  unfoldable pub jobs_of : ℕ → List ℕ
  jobs_of j = filter (λ i. eqb j (kind P i)) (upto (T P))

  -- 01's K_j
  abbrev pub K : ℕ → ℕ
  K j = length (jobs_of j)

  -- all K_j left: k at the start
  unfoldable pub all_left : List ℕ
  all_left = map K (upto P.N)

  -- k of a state: 0 ≤ k_j ≤ K_j for each of the N kinds (k_j is 0 for any other j)
  pub record IsLeft (k : List ℕ) : Type 0 where
    pub long : length k ≡ P.N
    pub within : (j : ℕ) → at k j ≤ K j

  -- a pair (L; k), which has an entry in 01's table
  pub record IsPair (L : ℕ) (k : List ℕ) : Type 0 where
    pub low : 1 ≤ L
    pub high : L ≤ P.N
    pub left : IsLeft k

  -- 01's state: a pair with k_L < K_L
  pub record IsState (L : ℕ) (k : List ℕ) : Type 0 where
    pub pair : IsPair L k
    pub completed : at k L < K L

  -- L's job in a state: the (K_L − k_L)th of its kind
  abbrev pub job : ℕ → List ℕ → ℕ
  job L k = at (jobs_of L) (K L - at k L)

  -- the place of that job: T − (k_1 + .. + k_N)
  abbrev pub place : List ℕ → ℕ
  place k = T P - sum k

  -- the jobs of a sequence of kinds, with k left before it, each kind by hand-in
  unfoldable pub by_hand_in : List ℕ → List ℕ → List ℕ
  by_hand_in k [] = []
  by_hand_in k (x ∷ xs) = job x (complete k x) ∷ by_hand_in (complete k x) xs
