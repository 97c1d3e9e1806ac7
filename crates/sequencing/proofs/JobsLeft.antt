-- The jobs left in a state, and what completing one does to them.
-- Assumes nothing.
use mathlib.Core.List.{List, ◌∷◌}
use mathlib.Core.Logic.{inl, inr}
use mathlib.Core.Path.{◌≡◌, refl, sym, ap, ◌∙◌}
use Prim.Native.Nat.{ℕ, suc, ◌+◌, ◌-◌, ◌≤◌, ◌<◌}
use native.Mathlib.Omega.{arith}
use lib.Dec.{eqb, eqb→eq, eqb_refl}
use lib.ListN.{get_or, drop}
use lib.Seq.{drop-cons, drop-length}
use Rattle.sequencing.specs.Lists.{at, upto, one, count}
use Rattle.sequencing.specs.Problem.{Problem, T, kind}
use Rattle.sequencing.specs.States.{complete, jobs_of, K, IsLeft, IsPair, job, place}
use Rattle.sequencing.proofs.Counting.{one_cases, one_self, count_filter, count_drop, get_d_filter, from_in}
use Rattle.sequencing.proofs.Vectors.{complete_sum, complete_length, at_complete, at_in}
use Rattle.sequencing.proofs.Ascending.{asc_least, asc_filter, asc_from}
use Rattle.sequencing.proofs.AllJobs.{left_small}

module _ (P : Problem) where
  -- the jobs left of kind j
  unfoldable pub left : ℕ → List ℕ → List ℕ
  left j k = drop (K P j - at k j) (jobs_of P j)

  pub left_none : (k : List ℕ) (j z : ℕ) → at k j ≡ 0 → count z (left j k) ≡ 0
  unfolding left count
  left_none k j z e = let q : K P j - at k j ≡ K P j = omega arith in rw (q, drop-length (jobs_of P j)) refl

  pub jobs_count : (z : ℕ) → count z (jobs_of P (kind P z)) ≡ count z (upto (T P))
  unfolding jobs_of
  jobs_count z = count_filter (λ i. eqb (kind P z) (kind P i)) z (upto (T P)) (eqb_refl (kind P z))

  pub left_count : (k : List ℕ) (z : ℕ) → count z (left (kind P z) k) ≤ count z (upto (T P))
  unfolding left
  left_count k z = omega (arith, count_drop z (K P (kind P z) - at k (kind P z)) (jobs_of P (kind P z)), jobs_count z)

  pub left_in : (k : List ℕ) (z : ℕ) → 0 < count z (left (kind P z) k) → (1 ≤ z) × (z ≤ T P)
  left_in k z h = omega (arith, from_in z 1 (T P) (omega (arith, left_count k z)))

module _ (P : Problem) (k : List ℕ) (x : ℕ) (s : IsLeft P k) (h : 0 < at k x) where
  pub complete_left : IsLeft P (complete k x)
  complete_left = record { long = complete_length k x ∙ s.long; within = λ j. omega (arith, at_complete k x j h, s.within j) }

  pub complete_below : at (complete k x) x < K P x
  complete_below = omega (arith, at_complete k x x h, s.within x, one_self x)

  pub next_pair : IsPair P x (complete k x)
  next_pair = let q = at_in k x h in record { low = q.0; high = omega (arith, s.long); left = complete_left }

  -- the place of the next job
  pub place_complete : place P (complete k x) ≡ suc (place P k)
  place_complete = omega (arith, complete_sum k x h, left_small P k s)

  before : K P x - at (complete k x) x ≡ suc (K P x - at k x)
  before = omega (arith, at_complete k x x h, s.within x, one_self x)

  inside : K P x - at k x < K P x
  inside = omega (arith, s.within x)

  next_is : job P x (complete k x) ≡ get_or (jobs_of P x) (K P x - at k x) 0
  next_is = ap (at (jobs_of P x)) before

  left_cons : left P x k ≡ job P x (complete k x) ∷ left P x (complete k x)
  unfolding left
  left_cons = rw (next_is, before) (drop-cons (jobs_of P x) (K P x - at k x) 0 inside)

  pub kind_next : kind P (job P x (complete k x)) ≡ x
  unfolding jobs_of
  kind_next = rw next_is (sym (eqb→eq x _ (get_d_filter (λ i. eqb x (kind P i)) (upto (T P)) (K P x - at k x) inside)))

  pub next_least : (z : ℕ) → 0 < count z (left P x k) → job P x (complete k x) ≤ z
  unfolding left jobs_of
  next_least z c = rw next_is (asc_least 0 z (K P x - at k x) (jobs_of P x) (asc_filter _ 0 0 (upto (T P)) (omega arith) (asc_from 0 1 (T P) (omega arith))) c)

  -- of all jobs left, the next one goes and the others stay
  pub left_step : (z : ℕ) → count z (left P (kind P z) k) ≡ one z (job P x (complete k x)) + count z (left P (kind P z) (complete k x))
  unfolding count left
  left_step z = elim (one_cases (kind P z) x) [
    | inl e ↦ rw e.0 (ap (count z) left_cons)
    | inr e ↦ (elim (one_cases z (job P x (complete k x))) [
      | inl q ↦ absurd (e.0 (ap (kind P) q.0 ∙ kind_next))
      | inr q ↦ (let a : at (complete k x) (kind P z) ≡ at k (kind P z) = omega (arith, at_complete k x (kind P z) h) in
          omega (arith, ap (λ v. count z (drop (K P (kind P z) - v) (jobs_of P (kind P z)))) a))
    ])
  ]
