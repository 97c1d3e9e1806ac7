-- Sequences of kinds that fill the places left, and the jobs that they place.
-- Assumes nothing.
use mathlib.Core.List.{List, [], ◌∷◌, map}
use mathlib.Core.Path.{◌≡◌, refl, sym, ap₂}
use Prim.Native.Nat.{ℕ, suc, ◌<◌}
use native.Mathlib.Omega.{arith}
use lib.Dec.{T as Is}
use lib.ListN.{length}
use Rattle.sequencing.specs.Lists.{at, sum, count}
use Rattle.sequencing.specs.Problem.{Problem, kind}
use Rattle.sequencing.specs.Orders.{PlacesPermitted}
use Rattle.sequencing.specs.States.{complete, IsLeft, job, place, by_hand_in}
use Rattle.sequencing.proofs.Counting.{one_self}
use Rattle.sequencing.proofs.Vectors.{complete_sum, at_complete, at_sum, sum_none}
use Rattle.sequencing.proofs.JobsLeft.{left, complete_left, place_complete, kind_next, left_step, left_none}

module _ (P : Problem) where
  -- xs uses up k, and its jobs, by hand-in, are all permitted at the places after k's
  unfoldable pub Fills : List ℕ → List ℕ → Type 0
  Fills k [] = sum k ≡ 0
  Fills k (x ∷ xs) = (0 < at k x) × Is (P.ok (job P x (complete k x)) (place P (complete k x))) × Fills (complete k x) xs

  -- the jobs of such a sequence: their kinds are its own, each job left is one of them, and they are permitted
  pub record Assigned (k xs : List ℕ) : Type 0 where
    pub kinds : map (kind P) (by_hand_in P k xs) ≡ xs
    pub counts : (z : ℕ) → count z (by_hand_in P k xs) ≡ count z (left P (kind P z) k)
    pub permitted : PlacesPermitted P (suc (place P k)) (by_hand_in P k xs)
    pub long : length xs ≡ sum k

  pub assigned : (k xs : List ℕ) → IsLeft P k → Fills k xs → Assigned k xs
  unfolding Fills by_hand_in count PlacesPermitted
  assigned k [] s f = record {
    kinds = refl;
    counts = λ z. sym (left_none P k (kind P z) z (omega (arith, at_sum k (kind P z))));
    permitted = tt;
    long = sym f;
  }
  assigned k (x ∷ xs) s f =
      let r = assigned (complete k x) xs (complete_left P k x s f.0) f.2 in
      record {
        kinds = ap₂ ◌∷◌ (kind_next P k x s f.0) r.kinds;
        counts = λ z. omega (arith, r.counts z, left_step P k x s f.0 z);
        permitted = rw (← (place_complete P k x s f.0)) (f.1, r.permitted);
        long = omega (arith, r.long, complete_sum k x f.0);
      }

  -- the same, said as 01 says it of a state
  pub uses : (k xs : List ℕ) → Fills k xs → (j : ℕ) → count j xs ≡ at k j
  unfolding Fills count
  uses k [] f j = omega (arith, at_sum k j)
  uses k (x ∷ xs) f j = omega (arith, uses (complete k x) xs f.2 j, at_complete k x j f.0)

  pub fills_of : (k xs : List ℕ) → IsLeft P k → ((j : ℕ) → count j xs ≡ at k j) → PlacesPermitted P (suc (place P k)) (by_hand_in P k xs) → Fills k xs
  unfolding Fills count PlacesPermitted by_hand_in
  fills_of k [] s u p = sum_none k (λ j. sym (u j))
  fills_of k (x ∷ xs) s u p =
      let h : 0 < at k x = omega (arith, u x, one_self x) in
      let e = place_complete P k x s h in
      (h, rw e p.0, fills_of (complete k x) xs (complete_left P k x s h) (λ j. omega (arith, u j, at_complete k x j h)) (rw e p.1))
