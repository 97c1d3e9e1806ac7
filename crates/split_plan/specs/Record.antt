-- What a split plan record holds, in document 02's terms, and the bounds on it.
use Rattle.std.specs.Prelude.{ℕ, ◌+◌, ◌-◌, ◌^◌, ◌≤◌, ◌<◌, List, ◌≡◌, length, get_or}
use Rattle.fields.specs.Lists.{tabulate, filled}
use Rattle.split_plan.specs.declared.Cutter.{Cutter}
use Rattle.split_plan.specs.declared.SplitPlan.{SplitPlan}

-- the job at a place of a cutter
abbrev pub job : Cutter → ℕ → ℕ
job c place = get_or c.order (place - 1) 0

-- a cutter's jobs, place by place, up to its count
abbrev pub job_list : Cutter → List ℕ
job_list c = tabulate (job c) 1 c.jobs

-- the cutter with these jobs, and 0 past them
abbrev pub cutter_of : List ℕ → Cutter
cutter_of js = record { jobs = length js; order = filled 60 js }

-- the record with these numbers and the jobs of each cutter
abbrev pub split_of : (goal cost : ℕ) (first second : List ℕ) → SplitPlan
split_of goal cost o₁ o₂ = record { goal = goal; cost = cost; first = cutter_of o₁; second = cutter_of o₂ }

-- 01's bound on T, of each job's number
abbrev pub Numbered : Cutter → Type 0
Numbered c = (place : ℕ) → 1 ≤ place → place ≤ c.jobs → job c place ≤ 60

-- 01's bounds on a plan, of both cutters together
pub record Bounded (p : SplitPlan) : Type 0 where
  pub goal : p.goal ≤ 2
  pub cost : p.cost < 2 ^ 42
  pub jobs : p.first.jobs + p.second.jobs ≤ 60
  pub first : Numbered p.first
  pub second : Numbered p.second

-- cutters with the same jobs, up to their counts
pub record SameJobs (c d : Cutter) : Type 0 where
  pub jobs : c.jobs ≡ d.jobs
  pub order : (place : ℕ) → 1 ≤ place → place ≤ d.jobs → job c place ≡ job d place

-- a record p is the same as q, up to the counts
pub record Same (p q : SplitPlan) : Type 0 where
  pub goal : p.goal ≡ q.goal
  pub cost : p.cost ≡ q.cost
  pub first : SameJobs p.first q.first
  pub second : SameJobs p.second q.second
