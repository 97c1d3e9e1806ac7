-- What the steps of the preparation give, over the arrays that they read.
use Rattle.std.specs.Prelude.{ℕ, ◌+◌, ◌-◌, ◌≤◌, min, max, cond, List, [], ◌∷◌, ◌≡◌, eqb, ltb, length, get_or}
use Rattle.fields.specs.Lists.{filled}
use Rattle.queue.specs.declared.Queue.{Queue}
use Rattle.queue.specs.declared.Window.{Window}
use Rattle.sequencing.specs.Lists.{at, upto, filter}
use Rattle.problem.specs.OfQueue.{problem}
use Rattle.jobs_left.specs.declared.Kind.{Kind}
use Rattle.jobs_left.specs.Kinds.{kind_at}
use Rattle.layout.specs.Prepared.{by_kind, no_place, kind_of}

-- of some jobs those of a kind, by hand-in
unfoldable pub of_kind : List ℕ → ℕ → List ℕ
of_kind kinds kind = filter (λ i. eqb kind (at kinds i)) (upto (length kinds))

-- the kinds with their entries from `from` on, each kind's `block` behind those of the kind before it
unfoldable pub with_blocks : (block from : ℕ) → List Kind → List Kind
with_blocks block from [] = []
with_blocks block from (kind ∷ kinds) = record kind { block = from } ∷ with_blocks block (from + block) kinds

-- what is known of the kinds, and the jobs kind by kind
pub record Listed (q : Queue) (kinds : List Kind) (jobs : List ℕ) : Type 0 where
  pub kinds_are : (L : ℕ) → 1 ≤ L → L ≤ q.kinds → kind_at kinds L ≡ kind_of q L
  pub jobs_by_kind : jobs ≡ filled 60 (by_kind (problem q))

-- the places permitted to a job, by its kind's allowed places and the shift
abbrev pub permitted_places : (job : ℕ) → Window → (shift : ℕ) → Window
permitted_places job window shift = record { first = max window.first (job - shift); last = min window.last (job + shift) }

-- of a kind whose jobs these are, with n of them left: the places permitted to the job just cut, none where none was cut
unfoldable pub slot_places : (jobs : List ℕ) → Window → (shift : ℕ) → ℕ → Window
slot_places jobs window shift n = cond (ltb n (length jobs)) (permitted_places (get_or jobs (length jobs - 1 - n) 0) window shift) no_place
