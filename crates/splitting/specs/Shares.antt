-- A cutter's share of the jobs: a queue of its own, on which the cutter follows 01's order for one cutter.
use Rattle.std.specs.Prelude.{Bool, true, not, List, map, ℕ, leb}
use Rattle.sequencing.specs.Lists.{at, upto, filter}
use Rattle.sequencing.specs.Problem.{Problem, T, kind}
use Rattle.sequencing.specs.States.{jobs_of}
use Rattle.sequencing.specs.Recursion.{plan_order}

module _ (P : Problem) where
  -- the queue of the jobs js, by hand-in, on a cutter whose start kind is s; each is permitted at each place
  abbrev pub share : (s : ℕ) (js : List ℕ) → Problem
  share s js = record { N = P.N; jobs = map (kind P) js; start = s; gap = P.gap; goal = P.goal; weight = P.weight; ok = λ i p. true }

  -- 02's "follows the one-cutter order", in the message's job numbers
  unfoldable pub share_order : (s : ℕ) (js : List ℕ) → List ℕ
  share_order s js = map (at js) (plan_order (share s js))

  module _ (n : List ℕ) where
    -- whether job i is among the first n_j of its kind j: the n_j-th of them, or handed in before it
    unfoldable pub is_early : ℕ → Bool
    is_early i = leb i (at (jobs_of P (kind P i)) (at n (kind P i)))

    -- 02's "for each kind the first cutter takes the earliest handed in", n_j of kind j
    unfoldable pub first_share : List ℕ
    first_share = filter is_early (upto (T P))

    -- and the second the others
    unfoldable pub second_share : List ℕ
    second_share = filter (λ i. not (is_early i)) (upto (T P))
