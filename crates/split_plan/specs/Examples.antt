-- The messages of small splits: 01's cases A and B split over two cutters (`splitting` has their orders and costs), and the longest.
use Rattle.std.specs.Prelude.{◌-◌, ◌^◌, ◌≡◌, length, replicate}
use mathlib.Core.List.{[], ◌∷◌}
use Rattle.split_plan.specs.declared.Cutter.{Cutter}
use Rattle.split_plan.specs.declared.SplitPlan.{SplitPlan}
use Rattle.split_plan.specs.Record.{split_of}
use Rattle.split_plan.specs.Writing.{message}

-- goal 1 and cost 10
abbrev split_with : Cutter → Cutter → SplitPlan
split_with c d = record { goal = 1; cost = 10; first = c; second = d }

pub record Examples : Type 0 where
  -- A, both cutters cold: goal 1, cost 30, job 2 on the first, jobs 1 and 3 on the second
  pub A_cold : message (split_of 1 30 (2 ∷ []) (1 ∷ 3 ∷ [])) ≡ 0x51 ∷ 0x32 ∷ 0x01 ∷ 0x01 ∷ 0x1E ∷ 0x01 ∷ 0x02 ∷ 0x02 ∷ 0x01 ∷ 0x03 ∷ []
  -- B, the second cutter after kind 1: goal 2, cost 150 in two groups
  pub B_after_1 : message (split_of 2 150 (1 ∷ 2 ∷ []) (3 ∷ [])) ≡ 0x51 ∷ 0x32 ∷ 0x01 ∷ 0x02 ∷ 0x96 ∷ 0x01 ∷ 0x02 ∷ 0x01 ∷ 0x02 ∷ 0x01 ∷ 0x03 ∷ []
  -- one job, which the second cutter has; no jobs
  pub one_job : message (split_of 1 10 [] (1 ∷ [])) ≡ 0x51 ∷ 0x32 ∷ 0x01 ∷ 0x01 ∷ 0x0A ∷ 0x00 ∷ 0x01 ∷ 0x01 ∷ []
  pub no_jobs : message (split_of 1 0 [] []) ≡ 0x51 ∷ 0x32 ∷ 0x01 ∷ 0x01 ∷ 0x00 ∷ 0x00 ∷ 0x00 ∷ []
  -- what stands past the counts is not written
  pub past : message (split_with (record { jobs = 0; order = 7 ∷ 9 ∷ [] }) (record { jobs = 1; order = 1 ∷ 8 ∷ [] }))
      ≡ message (split_of 1 10 [] (1 ∷ []))
  -- the longest: a cost of six groups, sixty jobs
  pub longest : length (message (split_of 2 (2 ^ 42 - 1) (replicate 40 60) (replicate 20 60))) ≡ 72
