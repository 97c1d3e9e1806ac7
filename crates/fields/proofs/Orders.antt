-- Runs in which each thing is judged by what the earlier ones left: one step at a time, runs that leave nothing, runs that leave it all.
-- Assumes nothing.
use Prim.Native.Nat.{ℕ, zero, suc, ◌<◌}
use mathlib.Core.Path.{◌≡◌, refl, ap}
use mathlib.Core.Bool.{Bool, true, ◌&&◌}
use mathlib.Core.Logic.{◌↔◌}
use mathlib.Core.List.{List, [], ◌∷◌, ◌++◌, append_assoc, append-nil}
use native.Mathlib.Omega.{arith}
use lib.ListN.{length, get_or, take}
use Rattle.number.specs.Readers.{Found, found, refused, Reader, and_then, times, behind}
use Rattle.fields.specs.Fields.{all}
use Rattle.fields.specs.Orders.{in_order, all_in_order, followed_by}
use Rattle.fields.proofs.Judged.{and_true}
use Rattle.fields.proofs.Local.{and_same}

-- a step that goes on does not change how the run ends
pub outcome_more : {A B : Type 0} (f : Found A) (g : A → B) → behind (and_then f (λ a j. found (g a) j)) ≡ behind f
outcome_more (found a n) g = refl
outcome_more (refused r) g = refl

-- ---- nothing is left, so each thing is judged by itself

abbrev pub kept : {A : Type 0} → Unit {0} → A → Unit {0}
kept state a = tt

pub times_in_order : {A : Type 0} (one : Reader A) (n : ℕ) (s : List ℕ) (at : ℕ) → times n one s at ≡ in_order (λ _. one) kept n tt s at
unfolding times in_order
times_in_order one zero s at = refl
times_in_order one (suc n) s at = and_same (one s at) (one s at) _ _ refl (λ a i e. and_same (times n one s i) _ _ _ (times_in_order one n s i) (λ more k f. refl))

pub all_in_order_lem : {A : Type 0} (ok : A → Bool) (xs : List A) → all ok xs ≡ all_in_order (λ _. ok) kept tt xs
unfolding all all_in_order
all_in_order_lem ok [] = refl
all_in_order_lem ok (a ∷ xs) = ap (λ (b : Bool). ok a && b) (all_in_order_lem ok xs)

-- ---- the earlier things themselves are left, so each is judged by its place in the list

module _ {A : Type 0} (ok : List A → A → Bool) (d : A) where
  places_after : (earlier xs : List A) → all_in_order ok followed_by earlier xs ≡ true → (i : ℕ) → i < length xs → ok (earlier ++ take i xs) (get_or xs i d) ≡ true
  unfolding all_in_order
  places_after earlier [] e i h = absurd (omega arith)
  places_after earlier (a ∷ xs) e zero h = rw (append-nil earlier) (and_true (ok earlier a) (all_in_order ok followed_by (followed_by earlier a) xs) e).0
  places_after earlier (a ∷ xs) e (suc i) h =
      rw (← append_assoc earlier (a ∷ []) (take i xs)) (places_after (followed_by earlier a) xs (and_true (ok earlier a) (all_in_order ok followed_by (followed_by earlier a) xs) e).1 i (omega arith))

  after_places : (earlier xs : List A) → ((i : ℕ) → i < length xs → ok (earlier ++ take i xs) (get_or xs i d) ≡ true) → all_in_order ok followed_by earlier xs ≡ true
  unfolding all_in_order
  after_places earlier [] h = refl
  after_places earlier (a ∷ xs) h =
      rw (rw (append-nil earlier) at (h 0 (omega arith)))
      (after_places (followed_by earlier a) xs (λ i u. rw (append_assoc earlier (a ∷ []) (take i xs)) (h (suc i) (omega arith))))

  pub in_order_places : (xs : List A) → (all_in_order ok followed_by [] xs ≡ true) ↔ ((i : ℕ) → i < length xs → ok (take i xs) (get_or xs i d) ≡ true)
  in_order_places xs = (places_after [] xs, after_places [] xs)
