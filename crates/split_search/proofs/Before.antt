-- Whether counts come before others: it is std's order on lists, and of arrays that end alike the first kinds decide.
-- Assumes nothing.
use mathlib.Core.List.{List, [], ◌∷◌}
use mathlib.Core.Logic.{inl, inr}
use mathlib.Core.Path.{◌≡◌, refl}
use mathlib.Mathlib.Data.Bool.Basic.{dichotomy}
use Prim.Native.Nat.{ℕ, zero, suc, ◌≤◌}
use native.Mathlib.Omega.{arith}
use borrow.Author.Tests.{eq-eqb, ne_eqb, ltb-true}
use lib.Dec.{ltb, eqb}
use lib.ListN.{length, get_or, take}
use Rattle.std.specs.Prelude.{Some}
use Rattle.std.specs.Cmp.Lexicographic.{slice_partial_cmp}
use Rattle.std.specs.Ordering.{nat_cmp, is_lt, is_some_and}
use Rattle.splitting.specs.Scan.{is_before}

pub before_is : (a b : List ℕ) → length a ≡ length b → is_some_and is_lt (slice_partial_cmp (λ x y. Some (nat_cmp x y)) a b) ≡ is_before a b
unfolding is_before
before_is [] [] e = refl
before_is [] (y ∷ b) e = absurd (omega arith)
before_is (x ∷ a) [] e = absurd (omega arith)
before_is (x ∷ a) (y ∷ b) e = elim (dichotomy (ltb x y)) [
  | inr t ↦ (let l = ltb-true x y t in rw (t, ne_eqb x y (λ s. omega arith)))
  | inl t ↦ rw t (elim (dichotomy (eqb x y)) [ inr s ↦ rw s (before_is a b (omega arith)) | inl s ↦ rw s ])
]

pub before_take : (n : ℕ) (a b : List ℕ) → length a ≡ length b → ((j : ℕ) → n ≤ j → get_or a j 0 ≡ get_or b j 0)
    → is_before a b ≡ is_before (take n a) (take n b)
unfolding is_before
before_take zero [] [] e h = refl
before_take (suc n) [] [] e h = refl
before_take n [] (y ∷ b) e h = absurd (omega arith)
before_take n (x ∷ a) [] e h = absurd (omega arith)
before_take zero (x ∷ a) (y ∷ b) e h = rw (eq-eqb x y (h 0 (omega arith))) (before_take zero a b (omega arith) (λ j l. h (suc j) (omega arith)))
before_take (suc n) (x ∷ a) (y ∷ b) e h = rw (before_take n a b (omega arith) (λ j l. h (suc j) (omega arith)))
