-- A queue with the same kinds of jobs in which everything is permitted.
-- Assumes nothing.
use Prim.Native.Nat.{ℕ, ◌-◌, ◌≤◌}
use mathlib.Core.Path.{◌≡◌, refl, ap}
use native.Mathlib.Omega.{arith}
use lib.Dec.{leb, le→leb}
use lib.ListN.{replicate, get_or-replicate}
use Rattle.gaps.specs.Gaps.{gap_index}
use Rattle.queue.specs.declared.Queue.{Queue}
use Rattle.queue.specs.declared.Window.{Window}
use Rattle.queue.specs.Record.{no_window, gap, first_place, last_place, kind, Valid}
use Rattle.sequencing.specs.Problem.{AllPermitted}
use Rattle.sequencing.specs.States.{jobs_of, all_left}
use Rattle.problem.specs.PlaceRule.{earliest, latest}
use Rattle.problem.specs.OfQueue.{problem}
use Rattle.problem.specs.Unforbidden.{NoNever}
use Rattle.problem.proofs.Tests.{and}
use Rattle.problem.proofs.Rule.{allowed_between, jobs_is}

-- places 1 to 60
abbrev all_places : Window
all_places = record { first = 1; last = 60 }

module _ (q : Queue) where
  -- shift 60, places 1 to 60, gaps 0
  abbrev pub freed : Queue
  freed = record {
    kinds = q.kinds;
    goal = q.goal;
    max_shift = 60;
    start = q.start;
    gaps = replicate 30 0;
    weights = q.weights;
    windows = replicate 5 all_places;
    jobs = q.jobs;
    job_kinds = q.job_kinds;
  }

  -- the counts are those of the kinds of jobs
  pub freed_counts : all_left (problem freed) ≡ all_left (problem q)
  unfolding all_left jobs_of
  freed_counts = refl

  gap_none : (i j : ℕ) → i ≤ 5 → 1 ≤ j → j ≤ 5 → gap freed i j ≡ 0
  gap_none i j l m u = get_or-replicate 30 (gap_index i j) 0 0 (omega arith)

  first_one : (j : ℕ) → 1 ≤ j → j ≤ 5 → first_place freed j ≡ 1
  first_one j l u = ap (λ (w : Window). w.first) (get_or-replicate 5 (j - 1) all_places no_window (omega arith))

  last_sixty : (j : ℕ) → 1 ≤ j → j ≤ 5 → last_place freed j ≡ 60
  last_sixty j l u = ap (λ (w : Window). w.last) (get_or-replicate 5 (j - 1) all_places no_window (omega arith))

  module _ (v : Valid q) where
    pub freed_valid : Valid freed
    freed_valid = record {
      kinds = v.kinds;
      goal = v.goal;
      shift = omega arith;
      start = v.start;
      gaps = λ i j l m u. omega (arith, gap_none i j (omega (arith, v.kinds)) m (omega (arith, v.kinds)));
      weights = v.weights;
      places = λ j l u. (
        omega (arith, first_one j l (omega (arith, v.kinds))),
        omega (arith, first_one j l (omega (arith, v.kinds)), last_sixty j l (omega (arith, v.kinds))),
        omega (arith, last_sixty j l (omega (arith, v.kinds))),
      );
      jobs = v.jobs;
      kinds_of_jobs = v.kinds_of_jobs;
    }

    pub freed_never : NoNever freed
    freed_never i j l m u e = omega (arith, gap_none i j (omega (arith, v.kinds)) m (omega (arith, v.kinds)))

    pub freed_permitted : AllPermitted (problem freed)
    unfolding earliest latest
    freed_permitted i p l u m n =
        let t = jobs_is freed in
        let k = v.kinds_of_jobs i l (omega arith) in
        let j : kind q i ≤ 5 = omega (arith, v.kinds) in
        let a : earliest freed i ≤ p = omega (arith, first_one (kind q i) k.0 j, v.jobs) in
        let b : p ≤ latest freed i = omega (arith, last_sixty (kind q i) k.0 j, v.jobs) in
        rw (allowed_between freed i p) (and (leb (earliest freed i) p) (leb p (latest freed i)) (le→leb _ _ a) (le→leb _ _ b))
