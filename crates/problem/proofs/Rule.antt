-- A valid queue is a problem of the theory: its jobs and kinds are the record's, it is within 01's limits, and 01's place rule has the exchange law
-- and holds between a job's earliest and latest place.
-- Assumes nothing.
use mathlib.Core.Bool.{◌&&◌}
use mathlib.Core.Logic.{◌↔◌}
use mathlib.Core.Path.{◌≡◌, sym, ap, ◌∙◌}
use Prim.Native.Nat.{ℕ, zero, suc, ◌+◌, ◌≤◌}
use native.Mathlib.Omega.{arith}
use lib.Dec.{T as Is, leb, leb→le, le→leb}
use Rattle.gaps.proofs.Gaps.{gap_le}
use Rattle.sequencing.specs.Problem.{T, kind as kindIn, Proper, Exchange}
use Rattle.sequencing.specs.Limits.{Limits}
use Rattle.queue.specs.declared.Queue.{Queue}
use Rattle.queue.specs.Record.{gap, first_place, last_place, kind, Valid}
use Rattle.fields.proofs.Tables.{length_tabulate, tabulate_at}
use Rattle.problem.specs.PlaceRule.{distance, allowed, earliest, latest}
use Rattle.problem.specs.OfQueue.{problem}
use Rattle.problem.proofs.Tests.{and_l, and_r, and, same_test}

-- 01's sentence on job i at place p: at most m places late or early, and within the window of its kind
record Allowed (q : Queue) (i p : ℕ) : Type 0 where
  late : p ≤ i + q.max_shift
  early : i ≤ p + q.max_shift
  first : first_place q (kind q i) ≤ p
  last : p ≤ last_place q (kind q i)

module _ (q : Queue) where
  -- the test is that sentence
  allowed_is : (i p : ℕ) → Is (allowed q i p) ↔ Allowed q i p
  unfolding allowed
  allowed_is i p = (
    (λ t. let near : distance p i ≤ q.max_shift = search (leb→le, and_l, and_r) in
        record { late = omega arith; early = omega arith; first = search (leb→le, and_l, and_r); last = search (leb→le, and_l, and_r) }),
    (λ r. let near : distance p i ≤ q.max_shift = omega arith in search (and, le→leb, near, r.first, r.last)),
  )

  -- and it holds from the earliest to the latest place and nowhere else
  pub allowed_between : (i p : ℕ) → allowed q i p ≡ leb (earliest q i) p && leb p (latest q i)
  unfolding earliest latest
  allowed_between i p = same_test (allowed q i p) (leb (earliest q i) p && leb p (latest q i))
      (λ t.
      let r = (allowed_is i p).0 t in
      let low : earliest q i ≤ p = omega arith in
      let high : p ≤ latest q i = omega arith in search (and, le→leb, low, high))
      (λ t.
      let low : earliest q i ≤ p = search (leb→le, and_l) in
      let high : p ≤ latest q i = search (leb→le, and_r) in
      (allowed_is i p).1 (record { late = omega arith; early = omega arith; first = omega arith; last = omega arith }))

  -- T is the record's
  pub jobs_is : T (problem q) ≡ q.jobs
  jobs_is = length_tabulate (kind q) 1 q.jobs

  -- and so is the kind of each of the T jobs
  pub kind_is : (i : ℕ) → 1 ≤ i → i ≤ T (problem q) → kindIn (problem q) i ≡ kind q i
  kind_is zero l u = absurd (omega arith)
  kind_is (suc i) l u = tabulate_at (kind q) 0 1 q.jobs i (omega (arith, jobs_is)) ∙ ap (kind q) (omega arith)

  -- 01's place rule has the exchange law: by hand-in neither shift is above the greater of the two the other way round, and one kind has one window
  pub exchange : Exchange (problem q)
  exchange i i' p p' low l high same b s t =
      let s' = (allowed_is i p').0 s in
      let t' = (allowed_is i' p).0 t in
      let e : kind q i ≡ kind q i' = sym (kind_is i low (omega arith)) ∙ same ∙ kind_is i' (omega arith) high in (
        (allowed_is i p).1 (record { late = omega arith; early = omega arith; first = rw e t'.first; last = omega arith }),
        (allowed_is i' p').1 (record { late = omega arith; early = omega arith; first = omega arith; last = rw (← e) s'.last }),
      )

  module _ (v : Valid q) where
    -- each job has a kind of 1 to N
    pub proper : Proper (problem q)
    proper i l u = rw (kind_is i l u) (v.kinds_of_jobs i l (omega (arith, jobs_is)))

    -- 01's bounds on gaps and pupils
    pub limits : Limits (problem q) 65535 1000
    limits = record { start = v.start; gaps = λ i j l m u. gap_le (gap q i j) (v.gaps i j l m u); weights = v.weights; positive = omega arith }

    -- and on jobs
    pub few_jobs : T (problem q) ≤ 60
    few_jobs = omega (arith, jobs_is, v.jobs)
