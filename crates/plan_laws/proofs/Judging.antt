-- 01's bounds on a record, by places and by the list of its jobs.
-- Assumes nothing.
use Prim.Native.Nat.{ℕ, ◌+◌, ◌-◌, ◌^◌, ◌<◌, ◌≤◌}
use mathlib.Core.Path.{◌≡◌, sym, ap, ◌∙◌}
use mathlib.Core.Bool.{true, false}
use mathlib.Core.List.{List}
use native.Mathlib.Omega.{arith}
use lib.ListN.{length, get_or, take}
use lib.Seq.{get_or-take, length-take-le}
use borrow.Author.Tests.{not-true}
use Rattle.fields.specs.Fields.{within}
use Rattle.fields.proofs.Judged.{and_true, within_true, true_within}
use Rattle.fields.specs.Lists.{stands_in}
use Rattle.fields.proofs.Orders.{in_order_places}
use Rattle.fields.proofs.Seeking.{stands_nowhere, nowhere_stands}
use Rattle.plan.specs.declared.Plan.{Plan}
use Rattle.plan.specs.Record.{fresh, job, job_list, Valid}
use Rattle.plan.specs.Writing.{all_fresh}
use Rattle.plan_laws.proofs.JobLists.{job_listed, job_list_length}

-- 01's bounds on a plan's numbers and its list of jobs
pub record Bounded (goal cost states t : ℕ) (js : List ℕ) : Type 0 where
  pub goals : (1 ≤ goal) × (goal ≤ 2)
  pub costs : cost < 2 ^ 42
  pub counts : states < 2 ^ 42
  pub few : t ≤ 60
  pub each : all_fresh t js ≡ true

module _ (p : Plan) where
  abbrev t : ℕ
  t = p.jobs

  abbrev js : List ℕ
  js = job_list p

  same_place : (k : ℕ) → k < t → get_or js k 0 ≡ job p (k + 1)
  same_place k h = let e : k + 1 - 1 ≡ k = omega arith in ap (λ (i : ℕ). get_or js i 0) (sym e) ∙ job_listed p (k + 1) (omega arith) (omega arith)

  pub valid_bounded : Valid p → Bounded p.goal p.cost p.feasible_states p.jobs (job_list p)
  valid_bounded v = record {
    goals = v.goal;
    costs = v.cost;
    counts = v.states;
    few = v.jobs;
    each = (in_order_places (fresh t) 0 js).1 (λ i h.
        let u : i < t = omega (arith, job_list_length p) in
        let r = v.in_range (i + 1) (omega arith) (omega arith) in
        let here = same_place i u in
        let size : length (take i js) ≡ i = length-take-le i js (omega arith) in
        let once : stands_in (get_or js i 0) (take i js) ≡ false = nowhere_stands (get_or js i 0) (take i js) (λ k l q.
        v.once (k + 1) (i + 1) (omega arith) (omega arith) (omega arith)
        (sym (same_place k (omega arith)) ∙ sym (get_or-take i js k 0 (omega arith)) ∙ q ∙ here)) in
        rw (true_within 1 t (get_or js i 0) (rw here r.0) (rw here r.1), once));
  }

  pub bounded_valid : Bounded p.goal p.cost p.feasible_states p.jobs (job_list p) → Valid p
  bounded_valid b =
      let size = job_list_length p in
      let fresh_at : (i : ℕ) → i < t → fresh t (take i js) (get_or js i 0) ≡ true = λ i h. (in_order_places (fresh t) 0 js).0 b.each i (omega arith) in
      record {
        goal = b.goals;
        cost = b.costs;
        states = b.counts;
        jobs = b.few;
        in_range = λ place l u.
            rw (job_listed p place l u) at
            (within_true 1 t (get_or js (place - 1) 0) (and_true _ _ (fresh_at (place - 1) (omega arith))).0);
        once = λ place later l m u q.
            stands_nowhere (get_or js (later - 1) 0) (take (later - 1) js) (place - 1)
            (not-true _ (and_true (within 1 t (get_or js (later - 1) 0)) _ (fresh_at (later - 1) (omega arith))).1)
            (rw (length-take-le (later - 1) js (omega arith)) (omega arith))
            (get_or-take (later - 1) js (place - 1) 0 (omega arith) ∙ job_listed p place l (omega arith) ∙ q ∙ sym (job_listed p later (omega arith) u));
      }
