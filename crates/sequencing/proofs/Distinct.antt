-- A list without repeats is no longer than one that has all its elements.
-- Assumes nothing.
use mathlib.Core.List.Memᴰ
use mathlib.Core.List.{List, [], ◌∷◌, Memᴰ}
use mathlib.Core.Logic.{◌⊎◌, inl, inr}
use mathlib.Core.Path.{◌≡◌, refl, sym, ap, ◌∙◌}
use Prim.Native.Nat.{suc, ◌≤◌}
use native.Mathlib.Omega.{arith}
use lib.ListN.{length}
use Rattle.sequencing.specs.Counts.{NoRepeats}

module _ {A : Type 0} where
  -- a list with one of its elements taken out
  without : {x : A} {l : List A} → Memᴰ x l → List A
  without (Memᴰ.head {xs = xs} e) = xs
  without (Memᴰ.tail {x = y} m) = y ∷ without m

  without_length : {x : A} {l : List A} (m : Memᴰ x l) → suc (length (without m)) ≡ length l
  unfolding without
  without_length (Memᴰ.head e) = refl
  without_length (Memᴰ.tail m) = ap suc (without_length m)

  -- the others stay
  stays : {x y : A} {l : List A} (m : Memᴰ x l) → Memᴰ y l → (y ≡ x) ⊎ Memᴰ y (without m)
  unfolding without
  stays (Memᴰ.head e) (Memᴰ.head e') = inl (e' ∙ sym e)
  stays (Memᴰ.head e) (Memᴰ.tail m') = inr m'
  stays (Memᴰ.tail m) (Memᴰ.head e') = inr (Memᴰ.head e')
  stays (Memᴰ.tail m) (Memᴰ.tail m') = elim (stays m m') [ inl e ↦ inl e | inr t ↦ inr (Memᴰ.tail t) ]

  others : (x y : A) (l r : List A) (m : Memᴰ x r) → (Memᴰ x l → ⊥) → Memᴰ y r → Memᴰ y l → Memᴰ y (without m)
  others x y l r m d u t = elim (stays m u) [ inl e ↦ absurd (d (Memᴰ.cast (sym e) t)) | inr v ↦ v ]

  pub shorter : (l r : List A) → NoRepeats l → ((x : A) → Memᴰ x l → Memᴰ x r) → length l ≤ length r
  unfolding NoRepeats
  shorter [] r d h = omega arith
  shorter (x ∷ l) r d h =
      let m = h x (Memᴰ.head refl) in
      omega (arith, without_length m, shorter l (without m) d.1 (λ y t. others x y l r m d.0 (h y (Memᴰ.tail t)) t))
