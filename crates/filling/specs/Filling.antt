-- What the table holds while it fills, k by k.
use Rattle.std.specs.Prelude.{ℕ, suc, ◌+◌, ◌-◌, ◌*◌, ◌≤◌, ◌<◌, Bool, cond, List, map, ◌≡◌, eqb, length, get_or, Option as Answer}
use Rattle.std.proofs.Math.Option.{Option, some}
use Rattle.queue.specs.declared.Queue.{Queue}
use Rattle.sequencing.specs.Lists.{at, sum, upto}
use Rattle.sequencing.specs.Problem.{Problem}
use Rattle.sequencing.specs.States.{all_left}
use Rattle.sequencing.specs.Least.{only, least}
use Rattle.sequencing.specs.Recursion.{value}
use Rattle.sequencing.specs.Entries.{digits, k_at, number, block, stored}
use Rattle.sequencing.specs.Counts.{valued}
use Rattle.problem.specs.OfQueue.{problem}
use Rattle.jobs_left.specs.declared.JobsLeft.{JobsLeft}
use Rattle.jobs_left.specs.declared.Kind.{Kind}
use Rattle.jobs_left.specs.Kinds.{kind_at}
use Rattle.jobs_left.specs.Steps.{LeftOf}
use Rattle.layout.specs.declared.Setup.{Setup}
use Rattle.layout.specs.PlaceSets.{is_in}
use Rattle.next_states.specs.NextStates.{answer, next_values, candidate, Ready}

-- the entries of the first i indices are filled
abbrev pub Earlier : Problem → List ℕ → ℕ → Type 0
Earlier P table i = (L j : ℕ) → 1 ≤ L → L ≤ P.N → j < i → get_or table ((L - 1) * block P + j) 0 ≡ stored (value P L (digits (all_left P) j))

-- what (L; k) comes to with jobs left, by the next states' entries: none where L's job is not permitted, else the least over the next kinds
abbrev pub value_by : (next gaps : List ℕ) (w : ℕ) → Bool → ℕ → Option ℕ
value_by next gaps w permitted L = only permitted (least (candidate next gaps L w) 5)

-- ---- the entries of one k, each kind's

-- what a function of the kind, from 0, may answer below n is f's value of that kind
abbrev pub Answers : (n : ℕ) → (post : ℕ → Answer ℕ → Type 0) → (f : ℕ → Option ℕ) → Type 0
Answers n post f = (x : ℕ) (r : Answer ℕ) → x < n → post x r → r ≡ answer (f (suc x))

-- the table then: at 01's number of (L; k) stands what f gives for L, all else is as it was; and how many of these hold a value
pub record StatesStored (P : Problem) (f : ℕ → Option ℕ) (table : List ℕ) (i : ℕ) (table' : List ℕ) (feasible : ℕ) : Type 0 where
  pub long : length table' ≡ length table
  pub filled_at : (L : ℕ) → 1 ≤ L → L ≤ P.N → get_or table' (number P L (k_at P i)) 0 ≡ stored (f L)
  pub rest : (n : ℕ) → ((L : ℕ) → 1 ≤ L → L ≤ P.N → n ≡ number P L (k_at P i) → ⊥) → get_or table' n 0 ≡ get_or table n 0
  pub many : feasible ≡ sum (map (λ L. valued (f L)) (upto P.N))

-- whether kind L's job just cut may stand at a place, told by its bit
abbrev pub in_place : (left : List ℕ) (kinds : List Kind) (places : List ℕ) (here : ℕ) → ℕ → Bool
in_place left kinds places here L = is_in here (get_or places ((kind_at kinds L).slot + at left L) 0)

module _ (q : Queue) (table : List ℕ) (k : JobsLeft) where
  -- the entries of the states that follow k
  abbrev pub next_of : List ℕ
  next_of = next_values (problem q) table (k_at (problem q) k.index)

  -- 01's W
  abbrev pub weight_of : ℕ
  weight_of = cond (eqb q.goal 1) 1 k.weight

  -- what the entry of (L; k) gets: none where L's job is not permitted, 0 where nothing is left, else the least over the next kinds
  unfoldable pub entry_from : (permitted : ℕ → Bool) → ℕ → Option ℕ
  entry_from permitted L = only (permitted L) (cond (eqb k.jobs 0) (some 0) (least (candidate next_of q.gaps L weight_of) 5))

  -- what filling the states of one k may rely on
  pub record Fillable : Type 0 where
    pub left_of : LeftOf (problem q) k
    pub ready : (L : ℕ) → 1 ≤ L → L ≤ q.kinds → Ready next_of q.gaps L weight_of

-- the entries of one k stored, where places given as sets permit its states' jobs at a place told by its bit
abbrev pub KStored : Setup → (table : List ℕ) → JobsLeft → (places : List ℕ) → (here : ℕ) → (table' : List ℕ) → (feasible : ℕ) → Type 0
KStored s table k places here = StatesStored (problem s.queue) (entry_from s.queue table k (in_place k.left s.layout.kinds places here)) table k.index
