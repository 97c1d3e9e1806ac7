-- A kind of the queue as the table counts it, and 01's W.
use Rattle.std.specs.Prelude.{ℕ, ◌-◌, cond, List, map, eqb, get_or}
use Rattle.jobs_left.specs.declared.Kind.{Kind}
use Rattle.jobs_left.specs.declared.StepWeight.{StepWeight}
use Rattle.jobs_left.specs.declared.StepWeight.TheVariants.{Seconds, Pupils}

-- a kind that is not there
abbrev pub no_kind : Kind
no_kind = record { count = 0; weight = 0; stride = 0; block = 0; begin = 0; slot = 0 }

-- the jobs of each of some kinds: 01's K_1, K_2, ..
abbrev pub counts_of : List Kind → List ℕ
counts_of kinds = map (λ kind. kind.count) kinds

-- the pupils waiting for one job of each of some kinds: w_1, w_2, ..
abbrev pub weights_of : List Kind → List ℕ
weights_of kinds = map (λ kind. kind.weight) kinds

-- 01's W by the goal and the weight of the jobs left: under goal 1 a second counts once
abbrev pub step_of : (goal weight : ℕ) → StepWeight
step_of goal weight = cond (eqb goal 1) Seconds (Pupils weight)

-- how often W counts a second
abbrev pub factor : StepWeight → ℕ
factor Seconds = 1
factor (Pupils weight) = weight

-- kind L of some kinds, from 1
abbrev pub kind_at : List Kind → (L : ℕ) → Kind
kind_at kinds L = get_or kinds (L - 1) no_kind
