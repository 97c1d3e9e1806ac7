-- All jobs left: the K_j add up to T, and no k of a state has more.
-- Assumes nothing.
use mathlib.Core.List.{List, map, map-map}
use mathlib.Core.Logic.{inl, inr}
use mathlib.Core.Path.{◌≡◌, sym, ap, ◌∙◌, fun_ext}
use Prim.Native.Nat.{ℕ, zero, suc, ◌+◌, ◌≤◌, ◌<◌}
use native.Mathlib.Nat.{eq-zero-or-pos}
use native.Mathlib.Omega.{arith}
use lib.ListN.{length, get_or, length-map}
use Rattle.sequencing.specs.Lists.{at, from, upto, sum, count}
use Rattle.sequencing.specs.Problem.{Problem, T, kind, Proper}
use Rattle.sequencing.specs.States.{jobs_of, K, all_left, IsLeft}
use Rattle.sequencing.proofs.Counting.{length_filter, from_le, from_pos, length_from, double, sum_map_le, sum_map_ones}
use Rattle.sequencing.proofs.Vectors.{at_in, sum_mono}

pub get_d_map_from : {B : Type 0} (f : ℕ → B) (i n r : ℕ) (d : B) → r < n → get_or (map f (from i n)) r d ≡ f (i + r)
unfolding from
get_d_map_from f i zero r d h = absurd (omega arith)
get_d_map_from f i (suc n) zero d h = ap f (omega arith)
get_d_map_from f i (suc n) (suc r) d h = get_d_map_from f (suc i) n r d (omega arith) ∙ ap f (omega arith)

module _ (P : Problem) where
  pub at_all : (j : ℕ) → 1 ≤ j → j ≤ P.N → at (all_left P) j ≡ K P j
  unfolding all_left
  at_all zero h l = omega arith
  at_all (suc r) h l = get_d_map_from (K P) 1 P.N r 0 (omega arith) ∙ ap (K P) (omega arith)

  pub length_all : length (all_left P) ≡ P.N
  unfolding all_left
  length_all = length-map (upto P.N) (K P) ∙ length_from 1 P.N

  pub all_left_lem : IsLeft P (all_left P)
  all_left_lem = record {
    long = length_all;
    within = λ j. elim (eq-zero-or-pos (at (all_left P) j)) [ inl e ↦ omega arith | inr h ↦ (let q = at_in (all_left P) j h in omega (arith, at_all j q.0 (omega (arith, length_all)))) ];
  }

  sum_all_is : sum (all_left P) ≡ sum (map (λ i. count (kind P i) (upto P.N)) (upto (T P)))
  unfolding all_left jobs_of
  sum_all_is =
      ap (λ f. sum (map f (upto P.N))) (fun_ext (λ j. length_filter (kind P) j (upto (T P))))
      ∙ double (map (kind P) (upto (T P))) (upto P.N)
      ∙ ap sum (map-map (λ y. count y (upto P.N)) (kind P) (upto (T P)))

  -- the K_j add up to T
  pub sum_all : Proper P → sum (all_left P) ≡ T P
  sum_all w = sum_all_is ∙ sum_map_ones (λ i. count (kind P i) (upto P.N)) 1 (T P)
      (λ i l u. omega (arith, from_le (kind P i) 1 P.N, from_pos (kind P i) 1 P.N (w i l (omega arith)).0 (omega (arith, (w i l (omega arith)).1))))

  module _ (k : List ℕ) (s : IsLeft P k) where
    pub below_all : (j : ℕ) → at k j ≤ at (all_left P) j
    below_all j = elim (eq-zero-or-pos (at k j)) [
      | inl e ↦ omega arith
      | inr h ↦ (let q = at_in k j h in omega (arith, at_all j q.0 (omega (arith, s.long)), s.within j))
    ]

    pub left_small : sum k ≤ T P
    left_small = omega (
      arith,
      sum_mono k (all_left P) (s.long ∙ sym length_all) below_all,
      sum_all_is,
      sum_map_le (λ i. count (kind P i) (upto P.N)) (upto (T P)) (λ i. from_le (kind P i) 1 P.N),
      length_from 1 (T P),
    )
