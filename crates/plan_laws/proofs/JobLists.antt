-- The jobs of a record as a list, and the record that holds a list.
-- Assumes nothing.
use Prim.Native.Nat.{ℕ, ◌+◌, ◌-◌, ◌<◌, ◌≤◌}
use mathlib.Core.Path.{◌≡◌, refl, ap, ◌∙◌}
use mathlib.Core.List.{List}
use native.Mathlib.Omega.{arith}
use lib.ListN.{length, get_or}
use Rattle.fields.proofs.Tables.{length_tabulate, tabulate_at, tabulate_same}
use Rattle.fields.proofs.Arrays.{array_back, filled_past}
use Rattle.plan.specs.declared.Plan.{Plan}
use Rattle.plan.specs.Record.{job, job_list, Same}
use Rattle.plan.specs.Reading.{plan_of, cleared}
use Rattle.plan.specs.Writing.{message}

pub job_listed : (p : Plan) (place : ℕ) → 1 ≤ place → place ≤ p.jobs → get_or (job_list p) (place - 1) 0 ≡ job p place
job_listed p place l u =
    let e : 1 + (place - 1) ≡ place = omega arith in
    tabulate_at (job p) 0 1 p.jobs (place - 1) (omega arith) ∙ ap (job p) e

pub job_list_length : (p : Plan) → length (job_list p) ≡ p.jobs
job_list_length p = length_tabulate (job p) 1 p.jobs

-- a record that holds a list of jobs holds no others
pub held : (goal cost states t : ℕ) (js : List ℕ) → length js ≡ t → t ≤ 60 → job_list (plan_of goal cost states t js) ≡ js
held goal cost states t js e h = array_back 60 t js e h

-- ---- 0 past T

module _ (p : Plan) (few : p.jobs ≤ 60) where
  pub cleared_list : job_list (cleared p) ≡ job_list p
  cleared_list = held p.goal p.cost p.feasible_states p.jobs (job_list p) (job_list_length p) few

  -- a record and what reading its message gives agree up to T ..
  pub cleared_same : Same (cleared p) p
  cleared_same = record {
    goal = refl;
    cost = refl;
    states = refl;
    jobs = refl;
    order = λ place l u. tabulate_same (job (cleared p)) (job p) 1 p.jobs cleared_list place l (omega arith);
  }

  -- .. and the latter holds 0 past T
  pub cleared_past : (place : ℕ) → p.jobs < place → job (cleared p) place ≡ 0
  cleared_past place h = filled_past 60 (job_list p) (place - 1) (omega (arith, job_list_length p))

  -- what stands past T makes no difference to the message
  pub cleared_message : message (cleared p) ≡ message p
  unfolding message
  cleared_message = rw cleared_list
