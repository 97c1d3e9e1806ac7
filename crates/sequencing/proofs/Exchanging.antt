-- Every permitted order gives a sequence of kinds that fills: jobs of one kind are exchanged until each kind is by hand-in.
-- Assumes nothing.
use mathlib.Core.List.{List, [], ◌∷◌, map}
use mathlib.Core.Logic.{inl, inr}
use mathlib.Core.Path.{◌≡◌, refl, ap}
use Prim.Native.Nat.{ℕ, zero, suc, ◌+◌, ◌≤◌, ◌<◌}
use native.Mathlib.Nat.{eq-zero-or-pos}
use native.Mathlib.Omega.{arith}
use lib.Dec.{T as Is}
use lib.ListN.{length, length-map}
use Rattle.sequencing.specs.Lists.{at, sum, one, count}
use Rattle.sequencing.specs.Problem.{Problem, T, kind, Exchange}
use Rattle.sequencing.specs.Orders.{PlacesPermitted}
use Rattle.sequencing.specs.States.{complete, IsLeft, job, place}
use Rattle.sequencing.proofs.Counting.{one_cases, one_self}
use Rattle.sequencing.proofs.Vectors.{complete_sum}
use Rattle.sequencing.proofs.JobsLeft.{left, complete_left, place_complete, kind_next, next_least, left_step, left_none, left_in}
use Rattle.sequencing.proofs.Fills.{Fills}

module _ (P : Problem) where
  -- t with the job m taken out and h put in, and m permitted at h's place p
  record Swapped (m h p q : ℕ) (t : List ℕ) : Type 0 where
    list : List ℕ
    first : Is (P.ok m p)
    permitted : PlacesPermitted P q list
    kinds : map (kind P) list ≡ map (kind P) t
    counts : (z : ℕ) → one z m + count z list ≡ one z h + count z t

  -- o holds the jobs left, each once
  abbrev pub Holds : List ℕ → List ℕ → Type 0
  Holds k o = (z : ℕ) → count z o ≡ count z (left P (kind P z) k)

  module _ (ex : Exchange P) where
    swap : (m h p q : ℕ) (t : List ℕ) → 1 ≤ m → m < h → h ≤ T P → kind P m ≡ kind P h → p < q → Is (P.ok h p) → PlacesPermitted P q t → 0 < count m t → Swapped m h p q t
    unfolding PlacesPermitted count
    swap m h p q [] one' l u same b o perm c = absurd (omega arith)
    swap m h p q (y ∷ t) one' l u same b o perm c = elim (one_cases m y) [
      | inl e ↦ (let r = ex m h p q one' l u same b (rw e.0 perm.0) o in
          record {
            list = h ∷ t;
            first = r.0;
            permitted = (r.1, perm.1);
            kinds = rw (← e.0) (rw same refl);
            counts = λ z. rw (← e.0) (omega arith);
          })
      | inr e ↦ (let r = swap m h p (suc q) t one' l u same (omega arith) o perm.1 (omega arith) in
          record {
            list = y ∷ r.list;
            first = r.first;
            permitted = (perm.0, r.permitted);
            kinds = ap (λ v. kind P y ∷ v) r.kinds;
            counts = λ z. omega (arith, r.counts z);
          })
    ]

    seen : (k : List ℕ) (h : ℕ) (t : List ℕ) → Holds k (h ∷ t) → 0 < count h (left P (kind P h) k)
    unfolding count
    seen k h t c = omega (arith, c h, one_self h)

    some_left : (k : List ℕ) (h : ℕ) (t : List ℕ) → Holds k (h ∷ t) → 0 < at k (kind P h)
    some_left k h t c = elim (eq-zero-or-pos (at k (kind P h))) [ inl q ↦ absurd (omega (arith, left_none P k (kind P h) h q, seen k h t c)) | inr q ↦ q ]

    -- the first job left of the head's kind, put at the head's place
    turn : (k : List ℕ) (h p : ℕ) (t : List ℕ) → IsLeft P k → Holds k (h ∷ t) → PlacesPermitted P p (h ∷ t) → (m : ℕ) → m ≡ job P (kind P h) (complete k (kind P h))
        → Swapped m h p (suc p) t
    unfolding PlacesPermitted count
    turn k h p t s c perm m e =
        let pos = some_left k h t c in
        let same : kind P m ≡ kind P h = rw e (kind_next P k (kind P h) s pos) in
        let held : 0 < count m (left P (kind P m) k) = omega (arith, one_self m, rw (← e) at (left_step P k (kind P h) s pos m)) in
        elim (one_cases m h) [
          | inl q ↦ record { list = t; first = rw q.0 perm.0; permitted = perm.1; kinds = refl; counts = λ z. rw q.0 refl }
          | inr q ↦ swap m h p (suc p) t (left_in P k m held).0 (omega (arith, rw (← e) at (next_least P k (kind P h) s pos h (seen k h t c))))
              (left_in P k h (seen k h t c)).1 same (omega arith) perm.0 perm.1 (omega (arith, c m))
        ]

    pub fills : (n : ℕ) (k o : List ℕ) → sum k ≡ n → length o ≡ n → IsLeft P k → Holds k o → PlacesPermitted P (suc (place P k)) o → Fills P k (map (kind P) o)
    unfolding Fills PlacesPermitted count
    fills zero k [] e l s c perm = e
    fills zero k (h ∷ t) e l s c perm = absurd (omega arith)
    fills (suc n) k [] e l s c perm = absurd (omega arith)
    fills (suc n) k (h ∷ t) e l s c perm =
        let pos = some_left k h t c in
        let sw = turn k h (suc (place P k)) t s c perm _ refl in
        let place-next = place_complete P k (kind P h) s pos in (
          pos,
          rw place-next sw.first,
          rw (← sw.kinds) (fills n (complete k (kind P h)) sw.list (omega (arith, complete_sum k (kind P h) pos))
              (omega (arith, simp length-map at (ap length sw.kinds))) (complete_left P k (kind P h) s pos)
              (λ z. omega (arith, c z, left_step P k (kind P h) s pos z, sw.counts z)) (rw place-next sw.permitted)),
        )
