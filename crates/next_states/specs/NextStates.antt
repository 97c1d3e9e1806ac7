-- The next states of one k: what the table holds for them, and the least over them.
use Rattle.std.specs.Prelude.{ℕ, ◌-◌, ◌^◌, ◌≤◌, ◌<◌, Bool, cond, List, [], ◌∷◌, ◌≢◌, ◌≡◌, ltb, eqb, get_or, Some, None, Option as Answer}
use Rattle.std.specs.List.{list_all}
use Rattle.std.proofs.Math.Option.{Option, none, some}
use Rattle.units.specs.declared.Seconds.{Seconds as Duration}
use Rattle.units.specs.declared.Cost.{Cost}
use Rattle.units.specs.declared.Cost.TheVariants.{InSeconds, InPupilSeconds}
use Rattle.gaps.specs.declared.Gap.{Gap}
use Rattle.gaps.specs.declared.Gap.TheVariants.{Lasting}
use Rattle.gaps.specs.Gaps.{gap_between}
use Rattle.sequencing.specs.Lists.{at}
use Rattle.sequencing.specs.Problem.{Problem}
use Rattle.sequencing.specs.States.{complete}
use Rattle.sequencing.specs.Least.{only, plus_gap, least, arg_least}
use Rattle.sequencing.specs.Entries.{stored, number}
use Rattle.jobs_left.specs.declared.StepWeight.{StepWeight}
use Rattle.jobs_left.specs.declared.StepWeight.TheVariants.{Seconds, Pupils}
use Rattle.jobs_left.specs.Kinds.{factor}
use Rattle.next_states.specs.declared.Least.{Least}

-- a value as it is read from the table: none for 2^64 − 1
abbrev pub loaded : ℕ → Option ℕ
loaded v = cond (eqb v (2 ^ 64 - 1)) none (some v)

-- a value as it is answered
abbrev pub answer : Option ℕ → Answer ℕ
answer none = None
answer (some c) = Some c

-- the next state by way of kind x: what the table holds at 01's number of it, none where no job of x is left
abbrev pub next_value : Problem → (table k : List ℕ) → ℕ → Option ℕ
next_value P table k x = only (ltb 0 (at k x)) (loaded (get_or table (number P x (complete k x)) 0))

-- a value for each of five kinds, as the table holds them
unfoldable pub per_kind : (ℕ → Option ℕ) → List ℕ
per_kind v = stored (v 1) ∷ stored (v 2) ∷ stored (v 3) ∷ stored (v 4) ∷ stored (v 5) ∷ []

-- the next states' entries by kind; none for kinds that are not there
abbrev pub next_values : Problem → (table k : List ℕ) → List ℕ
next_values P table k = per_kind (next_value P table k)

-- no entry holds a value
abbrev pub none_of : List ℕ → Bool
none_of next = list_all (λ v. eqb v (2 ^ 64 - 1)) next

-- what kind x as the next comes to from row L, by the next states' entries: w × gap(L, x) and what comes after; none where x may not follow L
abbrev pub candidate : (next gaps : List ℕ) (row w : ℕ) → ℕ → Option ℕ
candidate next gaps row w x = plus_gap w (gap_between gaps row x) (loaded (at next x))

-- so much in the unit of W: seconds, or pupil-seconds
abbrev pub cost_by : StepWeight → ℕ → Cost
cost_by Seconds c = InSeconds (record { 0 = c })
cost_by (Pupils weight) c = InPupilSeconds (record { 0 = c })

-- a least as it is answered: its cost in its unit, and the kind that reaches it
abbrev pub least_answer : (unit : ℕ → Cost) → (kind : ℕ) → Option ℕ → Answer Least
least_answer unit x none = None
least_answer unit x (some c) = Some (record { cost = unit c; kind = x })

-- the least over the next states from row L, and the smallest kind that reaches it
abbrev pub least_next : (next gaps : List ℕ) (row : ℕ) → StepWeight → Answer Least
least_next next gaps row w =
    least_answer (cost_by w) (arg_least (candidate next gaps row (factor w)) 5) (least (candidate next gaps row (factor w)) 5)

-- what counting w × a gap and a value together may rely on: two factors of 16 bits, and a sum that 64 bits hold
pub record Counted (value : Option ℕ) (gap : Gap) (w : ℕ) : Type 0 where
  pub light : w < 2 ^ 16
  pub short : (s : Duration) → value ≢ none → gap ≡ Lasting s → s.0 < 2 ^ 16
  pub small : (c : ℕ) → plus_gap w gap value ≡ some c → c < 2 ^ 64 - 1

-- what the least may rely on: a row that there is, and costs that 64 bits hold
pub record Ready (next gaps : List ℕ) (row w : ℕ) : Type 0 where
  pub row_in : row ≤ 5
  pub counted : (x : ℕ) → 1 ≤ x → x ≤ 5 → Counted (loaded (at next x)) (gap_between gaps row x) w
