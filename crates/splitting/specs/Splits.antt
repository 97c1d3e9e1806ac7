-- 02's splits of a queue over two cutters, which of them are permitted, and what they cost.
use Rattle.std.specs.Prelude.{cond, List, ◌++◌, map, ℕ, ◌+◌, max, eqb}
use Rattle.sequencing.specs.Problem.{Problem, kind}
use Rattle.sequencing.specs.Orders.{IsOrder, SuccessionsPermitted, cost}

-- the queue on a cutter whose start kind is s
abbrev pub on_cutter : Problem → ℕ → Problem
on_cutter P s = record { N = P.N; jobs = P.jobs; start = s; gap = P.gap; goal = P.goal; weight = P.weight; ok = P.ok }

-- 02's cost of both cutters: under goal 1 the later of the two last finishes, under goal 2 the sum of both costs
abbrev pub of_both : (goal first second : ℕ) → ℕ
of_both goal a b = cond (eqb goal 1) (max a b) (a + b)

module _ (P : Problem) where
  -- 02's "each job goes to one cutter": the jobs of the one, in any order, and those of the other have together each job once
  abbrev pub IsSplit : (first second : List ℕ) → Type 0
  IsSplit o₁ o₂ = IsOrder P (o₁ ++ o₂)

  -- 02's: on neither cutter is a succession forbidden, from its start to its first job included; s is the second cutter's start kind
  pub record SplitPermitted (s : ℕ) (o₁ o₂ : List ℕ) : Type 0 where
    pub first : SuccessionsPermitted P P.start (map (kind P) o₁)
    pub second : SuccessionsPermitted P s (map (kind P) o₂)

  -- 02's cost of a split, s being the second cutter's start kind; 01's cost of no jobs is 0
  unfoldable pub split_cost : (s : ℕ) (first second : List ℕ) → ℕ
  split_cost s o₁ o₂ = of_both P.goal (cost P o₁) (cost (on_cutter P s) o₂)
