-- A state has a value exactly when it is feasible; and where each job is permitted at each place, the job of a state is permitted at its own.
-- Assumes nothing.
use mathlib.Core.List.{List}
use mathlib.Core.Logic.{inl, inr, ◌≢◌, ◌↔◌}
use mathlib.Core.Option.{Option, none, some}
use mathlib.Core.Path.{◌≡◌, refl, sym, ◌∙◌}
use Prim.Native.Nat.{ℕ, ◌-◌, ◌≤◌, ◌<◌}
use native.Mathlib.Omega.{arith}
use lib.Dec.{T as Is, eqb}
use lib.ListN.{get_or}
use Rattle.sequencing.specs.Lists.{at, upto, sum}
use Rattle.sequencing.specs.Problem.{Problem, T, kind, AllPermitted}
use Rattle.sequencing.specs.States.{complete, jobs_of, K, all_left, IsPair, IsState, job, place}
use Rattle.sequencing.specs.Recursion.{W, walk, value}
use Rattle.sequencing.specs.Feasible.{Feasible}
use Rattle.sequencing.proofs.Counting.{one_cases, one_self, count_filter, get_d_filter, count_at, from_in}
use Rattle.sequencing.proofs.Vectors.{at_minus, complete_sum, complete_length, at_complete, sum_mono}
use Rattle.sequencing.proofs.AllJobs.{at_all, length_all, all_left_lem, below_all, left_small}
use Rattle.sequencing.proofs.Fills.{assigned, uses, fills_of}
use Rattle.sequencing.proofs.Costs.{by_steps}
use Rattle.sequencing.proofs.Options.{Upto}
use Rattle.sequencing.proofs.Recursion.{value_some, walk_is, value_upto, cost_upto_lem}

-- where an entry holds a value, its pair is a state
pub state_of : (P : Problem) (L : ℕ) (k : List ℕ) → IsPair P L k → value P L k ≢ none → IsState P L k
state_of P L k p h = go (value P L k) refl
  where
    go : (r : Option ℕ) → value P L k ≡ r → IsState P L k
    go none e = absurd (h e)
    go (some c) e = record { pair = p; completed = (value_some P L k c e).0 }

module _ (P : Problem) (L : ℕ) (k : List ℕ) (s : IsState P L k) where
  feasible_upto : (t : Feasible P L k) → Upto (by_steps P (W P) L k t.sequence) (value P L k)
  feasible_upto t = value_upto P L k _ s.completed t.here
      (cost_upto_lem P (sum k) L k t.sequence refl s.pair.left (fills_of P k t.sequence s.pair.left t.uses t.later) t.successions)

  feasible_of : (c : ℕ) → value P L k ≡ some c → Feasible P L k
  feasible_of c e =
      let v = value_some P L k c e in
      let q = walk_is P (sum k) L k c refl v.2 in
      record { here = v.1; sequence = walk P (sum k) L k; uses = uses P k _ q.0; later = (assigned P k _ s.pair.left q.0).permitted; successions = q.1 }

  -- 01's kept: a state has a value exactly when it is feasible by 01's sentence
  pub feasible_is : (value P L k ≢ none) ↔ Feasible P L k
  feasible_is = (go (value P L k) refl, (λ t e. rw e at (feasible_upto t)))
    where
      go : (r : Option ℕ) → value P L k ≡ r → value P L k ≢ none → Feasible P L k
      go none e h = absurd (h e)
      go (some c) e h = feasible_of c e

module _ (P : Problem) (L : ℕ) (k : List ℕ) (s : IsState P L k) where
  -- a state's job is one of the T
  job_in : (1 ≤ job P L k) × (job P L k ≤ T P)
  unfolding jobs_of
  job_in =
      let r = K P L - at k L - 1 in
      let z = get_or (jobs_of P L) r 0 in
      let l : r < K P L = omega (arith, s.completed) in
      let c = count_filter (λ i. eqb L (kind P i)) z (upto (T P)) (get_d_filter (λ i. eqb L (kind P i)) (upto (T P)) r l) in
      let q = from_in z 1 (T P) (omega (arith, count_at (jobs_of P L) r l)) in
      rw (at_minus (jobs_of P L) (K P L - at k L) (omega (arith, s.completed))) (q.0, omega arith)

  -- with the jobs of all kinds but one of L, no fewer are left
  fewer : sum k < T P
  fewer =
      let a = all_left P in
      let e = at_all P L s.pair.low s.pair.high in
      let h : 0 < at a L = omega (arith, s.completed) in
      let m = sum_mono k (complete a L) (s.pair.left.long ∙ sym (complete_length a L ∙ length_all P)) (λ j. elim (one_cases j L) [
        | inl q ↦ rw q.0 (omega (arith, at_complete a L L h, one_self L, s.completed))
        | inr q ↦ omega (arith, at_complete a L j h, below_all P k s.pair.left j)
      ]) in
      omega (arith, m, complete_sum a L h, left_small P a (all_left_lem P))

  pub state_permitted : AllPermitted P → Is (P.ok (job P L k) (place P k))
  state_permitted permitted = permitted (job P L k) (place P k) job_in.0 job_in.1 (omega (arith, fewer)) (omega arith)
