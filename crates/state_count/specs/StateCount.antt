-- The number of 01's states, by 02's sum over the counts of the kinds: no kept count passes it.
use Rattle.std.specs.Prelude.{List, map, ℕ, pred, ◌*◌, length, take, drop}
use Rattle.sequencing.specs.Lists.{at, upto, sum}
use Rattle.sequencing.specs.Problem.{Problem}
use Rattle.sequencing.specs.States.{IsState}
use Rattle.sequencing.specs.Entries.{size}
use Rattle.sequencing.specs.Counts.{CountsPairs}

-- 02's "all other (K_j + 1)": the product over the kinds below L and those above it
unfoldable pub others : List ℕ → ℕ → ℕ
others cs L = size (take (pred L) cs) * size (drop L cs)

-- 02's largest kept count: the sum over L of K_L times all other (K_j + 1)
unfoldable pub most_feasible : List ℕ → ℕ
most_feasible cs = sum (map (λ L. at cs L * others cs L) (upto (length cs)))

-- n is the number of 01's states, the pairs with k_L < K_L
abbrev pub CountsStates : Problem → ℕ → Type 0
CountsStates P n = CountsPairs (IsState P) n
