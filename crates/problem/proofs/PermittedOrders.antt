-- The permitted orders of a problem, listed: for queues that are written out.
-- Assumes nothing.
use mathlib.Core.Bool.{Bool, true, false, cond, ◌&&◌}
use mathlib.Core.List.Memᴰ
use mathlib.Core.List.{List, [], ◌∷◌, map, flat_map, Memᴰ}
use mathlib.Core.Logic.{inl, inr, ◌↔◌, ◌≢◌}
use mathlib.Core.Path.{◌≡◌, refl}
use mathlib.Mathlib.Data.Bool.Basic.{dichotomy}
use Prim.Native.Nat.{ℕ, zero, suc, ◌+◌, ◌≤◌, ◌<◌}
use native.Mathlib.Omega.{arith}
use lib.Dec.{T as Is, eqb, eqb→eq, eqb_refl}
use lib.ListN.{length}
use Rattle.gaps.specs.declared.Gap.{Gap}
use Rattle.gaps.specs.declared.Gap.TheVariants.{Lasting, Never}
use Rattle.gaps.proofs.Gaps.{not_never}
use Rattle.sequencing.specs.Lists.{from, upto, count}
use Rattle.sequencing.specs.Problem.{Problem, T, kind}
use Rattle.sequencing.specs.Orders.{IsOrder, PlacesPermitted, SuccessionsPermitted, Permitted}
use Rattle.sequencing.proofs.Counting.{one_cases, one_self, from_in}
use Rattle.sequencing.proofs.Orders.{order_counts}
use Rattle.problem.proofs.Tests.{and_l, and_r, and}

-- ---- all lists of n numbers of 1 to t

lists : ℕ → ℕ → List (List ℕ)
lists zero t = [] ∷ []
lists (suc n) t = flat_map (λ x. map (λ o. x ∷ o) (lists n t)) (upto t)

from_has : (z i n : ℕ) → i ≤ z → z < i + n → Memᴰ z (from i n)
unfolding from
from_has z i zero l u = absurd (omega arith)
from_has z i (suc n) l u = elim (one_cases z i) [ inl e ↦ Memᴰ.head e.0 | inr e ↦ Memᴰ.tail (from_has z (suc i) n (omega arith) (omega arith)) ]

flat_map_has : {A B : Type 0} (f : A → List B) (a : A) (b : B) (xs : List A) → Memᴰ a xs → Memᴰ b (f a) → Memᴰ b (flat_map f xs)
unfolding flat_map
flat_map_has f a b [] x m = elim x [ ]
flat_map_has f a b (x ∷ xs) (Memᴰ.head e) m = Memᴰ.append_left _ (rw e at m)
flat_map_has f a b (x ∷ xs) (Memᴰ.tail t) m = Memᴰ.append_right (f x) (flat_map_has f a b xs t m)

lists_has : (n t : ℕ) (o : List ℕ) → length o ≡ n → ((z : ℕ) → 0 < count z o → (1 ≤ z) × (z ≤ t)) → Memᴰ o (lists n t)
unfolding lists count
lists_has zero t [] e r = Memᴰ.head refl
lists_has zero t (x ∷ o) e r = absurd (omega arith)
lists_has (suc n) t [] e r = absurd (omega arith)
lists_has (suc n) t (x ∷ o) e r =
    let q = r x (omega (arith, one_self x)) in
    flat_map_has _ x (x ∷ o) (upto t) (from_has x 1 t q.0 (omega arith)) (Memᴰ.map (λ o. x ∷ o) (lists_has n t o (omega arith) (λ z c. r z (omega arith))))

-- ---- those that pass a test

passing : (List ℕ → Bool) → List (List ℕ) → List (List ℕ)
passing p [] = []
passing p (o ∷ os) = cond (p o) (o ∷ passing p os) (passing p os)

passing_has : (p : List ℕ → Bool) (o : List ℕ) (os : List (List ℕ)) → Memᴰ o os → Is (p o) → Memᴰ o (passing p os)
unfolding passing
passing_has p o [] x t = elim x [ ]
passing_has p o (x ∷ os) (Memᴰ.head s) t = elim (dichotomy (p x)) [ inr e ↦ rw e (Memᴰ.head s) | inl e ↦ absurd (rw (s, e) at t) ]
passing_has p o (x ∷ os) (Memᴰ.tail m) t = elim (dichotomy (p x)) [
  | inr e ↦ rw e (Memᴰ.tail (passing_has p o os m t))
  | inl e ↦ rw e (passing_has p o os m t)
]

passing_is : (p : List ℕ → Bool) (o : List ℕ) (os : List (List ℕ)) → Memᴰ o (passing p os) → Is (p o)
unfolding passing
passing_is p o [] m = absurd (Memᴰ.not-nil m)
passing_is p o (x ∷ os) m = elim (dichotomy (p x)) [
  | inr e ↦ (elim (Memᴰ.cases_cons (rw e at m)) [ inl s ↦ rw (s, e) tt | inr t ↦ passing_is p o os t ])
  | inl e ↦ passing_is p o os (rw e at m)
]

-- ---- a test for the permitted orders

and_iff : (a b : Bool) {A B : Type 0} → Is a ↔ A → Is b ↔ B → Is (a && b) ↔ (A × B)
and_iff a b f g = ((λ t. (f.0 (and_l a b t), g.0 (and_r a b t))), (λ s. and a b (f.1 s.0) (g.1 s.1)))

eqb_iff : (m n : ℕ) → Is (eqb m n) ↔ (m ≡ n)
eqb_iff m n = (eqb→eq m n, (λ e. rw e (eqb_refl n)))

-- each of the n numbers from i on stands in o once
once_from : List ℕ → ℕ → ℕ → Bool
once_from o i zero = true
once_from o i (suc n) = eqb (count i o) 1 && once_from o (suc i) n

once_is : (o : List ℕ) (i n : ℕ) → Is (once_from o i n) → (z : ℕ) → i ≤ z → z < i + n → count z o ≡ 1
unfolding once_from
once_is o i zero t z l u = absurd (omega arith)
once_is o i (suc n) t z l u = elim (one_cases z i) [
  | inl e ↦ rw e.0 (eqb→eq _ 1 (and_l (eqb (count i o) 1) (once_from o (suc i) n) t))
  | inr e ↦ once_is o (suc i) n (and_r (eqb (count i o) 1) (once_from o (suc i) n) t) z (omega arith) (omega arith)
]

is_once : (o : List ℕ) (i n : ℕ) → ((z : ℕ) → i ≤ z → z < i + n → count z o ≡ 1) → Is (once_from o i n)
unfolding once_from
is_once o i zero h = tt
is_once o i (suc n) h = and (eqb (count i o) 1) (once_from o (suc i) n) ((eqb_iff _ 1).1 (h i (omega arith) (omega arith))) (is_once o (suc i) n (λ z l u. h z (omega arith) (omega arith)))

follows : Gap → Bool
follows Never = false
follows (Lasting s) = true

follows_iff : (g : Gap) → Is (follows g) ↔ (g ≢ Never)
unfolding follows
follows_iff Never = ((λ t. absurd t), (λ h. absurd (h refl)))
follows_iff (Lasting s) = ((λ t. not_never s), (λ h. tt))

module _ (P : Problem) where
  permitted_from : ℕ → List ℕ → Bool
  permitted_from p [] = true
  permitted_from p (i ∷ o) = P.ok i p && permitted_from (suc p) o

  permitted_iff : (p : ℕ) (o : List ℕ) → Is (permitted_from p o) ↔ PlacesPermitted P p o
  unfolding permitted_from PlacesPermitted
  permitted_iff p [] = ((λ t. tt), (λ t. tt))
  permitted_iff p (i ∷ o) = and_iff (P.ok i p) (permitted_from (suc p) o) ((λ t. t), (λ t. t)) (permitted_iff (suc p) o)

  follows_from : ℕ → List ℕ → Bool
  follows_from L [] = true
  follows_from L (x ∷ xs) = follows (P.gap L x) && follows_from x xs

  successions_iff : (L : ℕ) (xs : List ℕ) → Is (follows_from L xs) ↔ SuccessionsPermitted P L xs
  unfolding follows_from SuccessionsPermitted
  successions_iff L [] = ((λ t. tt), (λ t. tt))
  successions_iff L (x ∷ xs) = and_iff (follows (P.gap L x)) (follows_from x xs) (follows_iff (P.gap L x)) (successions_iff x xs)

  is_permitted : List ℕ → Bool
  is_permitted o = (eqb (length o) (T P) && once_from o 1 (T P)) && (permitted_from 1 o && follows_from P.start (map (kind P) o))

  permitted_is : (o : List ℕ)
      → Is (is_permitted o) ↔ (((length o ≡ T P) × ((z : ℕ) → 1 ≤ z → z < 1 + T P → count z o ≡ 1)) × (PlacesPermitted P 1 o × SuccessionsPermitted P P.start (map (kind P) o)))
  unfolding is_permitted
  permitted_is o = and_iff (eqb (length o) (T P) && once_from o 1 (T P)) (permitted_from 1 o && follows_from P.start (map (kind P) o))
      (and_iff (eqb (length o) (T P)) (once_from o 1 (T P)) (eqb_iff _ (T P)) (once_is o 1 (T P), is_once o 1 (T P)))
      (and_iff (permitted_from 1 o) (follows_from P.start (map (kind P) o)) (permitted_iff 1 o) (successions_iff P.start (map (kind P) o)))

  -- ---- the list

  unfoldable pub permitted_orders : List (List ℕ)
  unfolding passing lists is_permitted once_from permitted_from follows_from follows
  permitted_orders = passing is_permitted (lists (T P) (T P))

  -- it holds the permitted orders and nothing else
  pub permitted_orders_lem : (o : List ℕ) → (IsOrder P o × Permitted P o) ↔ Memᴰ o permitted_orders
  unfolding permitted_orders
  permitted_orders_lem o = (
    (λ w. passing_has is_permitted o (lists (T P) (T P))
        (lists_has (T P) (T P) o w.0.whole (λ z c. omega (arith, from_in z 1 (T P) (rw (order_counts P o w.0 z) at c))))
        ((permitted_is o).1 ((w.0.whole, (λ z l u. w.0.once z l (omega arith))), (w.1.places, w.1.successions)))),
    (λ m. let t = (permitted_is o).0 (passing_is is_permitted o (lists (T P) (T P)) m) in
        (record { whole = t.0.0; once = λ z l u. t.0.1 z l (omega arith) }, record { places = t.1.0; successions = t.1.1 })),
  )
