-- What a plan record holds, in document 01's terms, and the bounds on it.
use Rattle.std.specs.Prelude.{ℕ, ◌-◌, ◌^◌, ◌≤◌, ◌<◌, Bool, ◌&&◌, not, List, ◌≡◌, get_or}
use Rattle.fields.specs.Fields.{within}
use Rattle.fields.specs.Lists.{tabulate, stands_in}
use Rattle.plan.specs.declared.Plan.{Plan}

-- a job in a plan of t jobs, after the earlier places: 18 where it is 0, over T, or at an earlier place
abbrev pub fresh : ℕ → List ℕ → ℕ → Bool
fresh t earlier j = within 1 t j && not (stands_in j earlier)

module _ (p : Plan) where
  -- the job at a place
  abbrev pub job : ℕ → ℕ
  job place = get_or p.order (place - 1) 0

  -- the job at each place, 1 to T
  abbrev pub job_list : List ℕ
  job_list = tabulate job 1 p.jobs

  -- 01's bounds: a record that can be written, up to T
  pub record Valid : Type 0 where
    pub goal : (1 ≤ p.goal) × (p.goal ≤ 2)
    pub cost : p.cost < 2 ^ 42
    pub states : p.feasible_states < 2 ^ 42
    pub jobs : p.jobs ≤ 60
    pub in_range : (place : ℕ) → 1 ≤ place → place ≤ p.jobs → (1 ≤ job place) × (job place ≤ p.jobs)
    pub once : (place later : ℕ) → 1 ≤ place → place < later → later ≤ p.jobs → job place ≡ job later → ⊥

-- "round trips compare up to N and T": a record p is the same as q
pub record Same (p q : Plan) : Type 0 where
  pub goal : p.goal ≡ q.goal
  pub cost : p.cost ≡ q.cost
  pub states : p.feasible_states ≡ q.feasible_states
  pub jobs : p.jobs ≡ q.jobs
  pub order : (place : ℕ) → 1 ≤ place → place ≤ q.jobs → job p place ≡ job q place
