-- What is prepared once a call.
use Rattle.std.specs.Prelude.{ℕ, ◌+◌, ◌-◌, ◌*◌, cond, ◌≡◌, ltb, replicate}
use mathlib.Core.List.{List, map, flat_map}
use Rattle.std.proofs.lemmas.List.Edits.{sets}
use Rattle.fields.specs.Lists.{tabulate, filled}
use Rattle.queue.specs.declared.Queue.{Queue}
use Rattle.queue.specs.declared.Window.{Window}
use Rattle.queue.specs.Record.{weight}
use Rattle.sequencing.specs.Lists.{at, sum, upto}
use Rattle.sequencing.specs.Problem.{Problem}
use Rattle.sequencing.specs.States.{jobs_of, K, all_left}
use Rattle.sequencing.specs.Entries.{stride, block}
use Rattle.problem.specs.PlaceRule.{earliest, latest}
use Rattle.problem.specs.OfQueue.{problem}
use Rattle.jobs_left.specs.declared.Kind.{Kind}
use Rattle.jobs_left.specs.Kinds.{no_kind}
use Rattle.layout.specs.declared.Layout.{Layout}

-- the places permitted to no job
abbrev pub no_place : Window
no_place = record { first = 1; last = 0 }

module _ (P : Problem) where
  -- the jobs kind by kind, each kind by hand-in
  unfoldable pub by_kind : List ℕ
  by_kind = flat_map (jobs_of P) (upto P.N)

  -- where kind L begins there: K_1 + .. + K_(L−1)
  unfoldable pub begin_of : ℕ → ℕ
  begin_of L = sum (map (K P) (upto (L - 1)))

  -- something for each kind and each number of jobs left of it, 0 to K_L, kind by kind
  unfoldable pub by_slot : {A : Type 0} → (ℕ → ℕ → A) → List A
  by_slot f = flat_map (λ L. tabulate (f L) 0 (K P L + 1)) (upto P.N)

  -- where kind L begins there: one slot more for each kind before it
  abbrev pub slot_of : ℕ → ℕ
  slot_of L = begin_of L + (L - 1)

  -- L's job just cut, with n jobs of L left: the (K_L − n)th; 0 where none was cut
  abbrev pub job_cut : ℕ → ℕ → ℕ
  job_cut L n = at (jobs_of P L) (K P L - n)

module _ (q : Queue) where
  -- the first place permitted to that job; 1 where none was cut
  unfoldable pub earliest_at : ℕ → ℕ → ℕ
  earliest_at L n = cond (ltb n (K (problem q) L)) (earliest q (job_cut (problem q) L n)) 1

  -- the last; 0 where none was cut, so that no place is permitted
  unfoldable pub latest_at : ℕ → ℕ → ℕ
  latest_at L n = cond (ltb n (K (problem q) L)) (latest q (job_cut (problem q) L n)) 0

  -- the places from the first to the last
  abbrev pub places_at : ℕ → ℕ → Window
  places_at L n = record { first = earliest_at L n; last = latest_at L n }

  -- what is known of kind L, its entries beginning at (L − 1) × b
  abbrev pub kind_by : (b : ℕ) → ℕ → Kind
  kind_by b L = record {
    count = K (problem q) L;
    weight = weight q L;
    stride = stride (all_left (problem q)) L;
    block = (L - 1) * b;
    begin = begin_of (problem q) L;
    slot = slot_of (problem q) L;
  }

  -- what is known of kind L: P entries for each kind before it
  abbrev pub kind_of : ℕ → Kind
  kind_of = kind_by (block (problem q))

  -- what is prepared for a queue
  pub record Prepared (l : Layout) : Type 0 where
    pub kinds_are : l.size.kinds ≡ q.kinds
    pub jobs_are : l.size.jobs ≡ q.jobs
    pub block_is : l.size.block ≡ block (problem q)
    pub known_kinds : l.kinds ≡ sets (replicate 5 no_kind) 0 (map kind_of (upto q.kinds))
    pub jobs_by_kind : l.jobs ≡ filled 60 (by_kind (problem q))
    pub places_are : l.places ≡ sets (replicate 65 no_place) 0 (by_slot (problem q) places_at)
    pub gaps_are : l.gaps.numbers ≡ q.gaps
