-- Where each kind's jobs and slots stand in the arrays, and that all have room.
-- Assumes nothing.
use Prim.Native.Nat.{ℕ, suc, ◌+◌, ◌-◌, ◌≤◌, ◌<◌}
use mathlib.Core.Path.{◌≡◌, sym, ap, ◌∙◌}
use native.Mathlib.Omega.{arith}
use lib.Dec.{eqb, eqb→eq}
use lib.ListN.{length, get_or}
use Rattle.fields.specs.Lists.{tabulate}
use Rattle.fields.proofs.Tables.{length_tabulate, tabulate_at}
use Rattle.queue.specs.declared.Queue.{Queue}
use Rattle.queue.specs.Record.{kind, Valid}
use Rattle.sequencing.specs.Lists.{upto, sum}
use Rattle.sequencing.specs.Problem.{Problem, T, kind as kindIn}
use Rattle.sequencing.specs.States.{jobs_of, K, all_left}
use Rattle.sequencing.proofs.Counting.{get_d_filter}
use Rattle.sequencing.proofs.Vectors.{at_in}
use Rattle.sequencing.proofs.AllJobs.{sum_all}
use Rattle.problem.specs.OfQueue.{problem}
use Rattle.problem.proofs.Rule.{kind_is, proper, few_jobs}
use Rattle.layout.specs.Prepared.{by_kind, begin_of, by_slot, slot_of, job_cut}
use Rattle.layout.proofs.Blocks.{flat_long, flat_at, sum_front, sum_slots}

-- the job just cut has its kind
pub kind_cut : (q : Queue) (L n : ℕ) → 1 ≤ L → n < K (problem q) L → kind q (job_cut (problem q) L n) ≡ L
unfolding jobs_of
kind_cut q L n h few =
    let P : Problem = problem q in
    let r : ℕ = K P L - 1 - n in
    let i : ℕ = get_or (jobs_of P L) r 0 in
    let e : K P L - n ≡ suc r = omega arith in
    let k : kindIn P i ≡ L = sym (eqb→eq L (kindIn P i) (get_d_filter (λ i. eqb L (kindIn P i)) (upto (T P)) r (omega arith))) in
    let s = at_in P.jobs i (omega arith) in
    rw e (sym (kind_is q i s.0 s.1) ∙ k)

module _ (q : Queue) (v : Valid q) where
  abbrev pub P : Problem
  P = problem q

  all_few : sum (all_left P) ≤ 60
  all_few = omega (arith, sum_all P (proper q v), few_jobs q v)

  -- the jobs before a kind and its own are no more than all
  pub begin_few : (L : ℕ) → 1 ≤ L → L ≤ q.kinds → begin_of P L + K P L ≤ 60
  unfolding begin_of all_left
  begin_few L l u =
      let e : 1 + (L - 1) ≡ L = omega arith in
      omega (arith, rw e at (sum_front (K P) 1 q.kinds (L - 1) (omega arith)), all_few)

  pub all_by_kind : length (by_kind P) ≤ 60
  unfolding by_kind all_left
  all_by_kind = omega (arith, flat_long (jobs_of P) 1 q.kinds, all_few)

  -- the jobs of a kind, by hand-in, from where it begins
  pub by_kind_at : (L n : ℕ) → 1 ≤ L → L ≤ q.kinds → n < K P L
      → (begin_of P L + n < length (by_kind P)) × (get_or (by_kind P) (begin_of P L + n) 0 ≡ get_or (jobs_of P L) n 0)
  unfolding begin_of by_kind
  by_kind_at L n l u few =
      let e : 1 + (L - 1) ≡ L = omega arith in (
        omega (arith, flat_long (jobs_of P) 1 q.kinds, rw e at (sum_front (K P) 1 q.kinds (L - 1) (omega arith))),
        flat_at (jobs_of P) 0 1 q.kinds (L - 1) n (omega arith) (rw e few) ∙ rw e,
      )

  module _ {A : Type 0} (f : ℕ → ℕ → A) where
    pub by_slot_long : length (by_slot P f) ≡ sum (all_left P) + q.kinds
    unfolding by_slot all_left
    by_slot_long = flat_long (λ L. tabulate (f L) 0 (K P L + 1)) 1 q.kinds ∙ sum_slots f (K P) 1 q.kinds

    pub all_by_slot : length (by_slot P f) ≤ 65
    all_by_slot = omega (arith, by_slot_long, all_few, v.kinds)

    module _ (L n : ℕ) (l : 1 ≤ L) (u : L ≤ q.kinds) (few : n ≤ K P L) where
      pub slot_within : slot_of P L + n < length (by_slot P f)
      unfolding begin_of all_left
      slot_within =
          let e : 1 + (L - 1) ≡ L = omega arith in
          omega (arith, by_slot_long, rw e at (sum_front (K P) 1 q.kinds (L - 1) (omega arith)))

      pub by_slot_at : (d : A) → get_or (by_slot P f) (slot_of P L + n) d ≡ f L n
      unfolding begin_of by_slot
      by_slot_at d =
          let e : 1 + (L - 1) ≡ L = omega arith in
          rw (← sum_slots f (K P) 1 (L - 1))
          (flat_at (λ L. tabulate (f L) 0 (K P L + 1)) d 1 q.kinds (L - 1) n (omega arith) (rw e (omega (arith, length_tabulate (f L) 0 (K P L + 1))))
          ∙ rw e (tabulate_at (f L) d 0 (K P L + 1) n (omega arith) ∙ ap (f L) (omega arith)))
