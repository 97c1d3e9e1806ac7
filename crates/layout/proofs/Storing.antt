-- Lists with one element more at their end, as loops make them, and arrays that hold them.
-- Assumes nothing.
use Prim.Native.Nat.{ℕ, zero, suc, ◌+◌, ◌-◌, ◌≤◌}
use mathlib.Core.Bool.{Bool}
use mathlib.Core.List.{List, [], ◌∷◌, ◌++◌, append-nil, map, flat_map}
use mathlib.Core.Path.{◌≡◌, refl, sym, ap, ◌∙◌}
use mathlib.Mathlib.Data.Bool.Basic.{dichotomy}
use mathlib.Core.Logic.{inl, inr}
use native.Mathlib.Omega.{arith}
use native.Mathlib.Nat.{zero-add, add-zero}
use lib.ListN.{length, take, drop, set, length-map}
use lib.Seq.{sets, length-sets}
use Rattle.std.proofs.lemmas.List.{map_push}
use Rattle.std.proofs.lemmas.List.Concat.{flat_map-append}
use Rattle.fields.specs.Lists.{tabulate}
use Rattle.fields.proofs.Parts.{sets_append, sets_mid}
use Rattle.fields.proofs.Tables.{length_tabulate}
use Rattle.sequencing.specs.Lists.{from, upto, filter}
use Rattle.sequencing.proofs.Counting.{length_from}

-- m numbers, and then n
pub from_parts : (i m n : ℕ) → from i (m + n) ≡ from i m ++ from (i + m) n
unfolding from
from_parts i zero n = rw (add-zero i, zero-add n)
from_parts i (suc m) n =
    let e : suc m + n ≡ suc (m + n) = omega arith in
    let f : i + suc m ≡ suc i + m = omega arith in
    rw (e, f) (ap (λ l. i ∷ l) (from_parts (suc i) m n))

pub upto_more : (n : ℕ) → upto (n + 1) ≡ upto n ++ ((n + 1) ∷ [])
unfolding from
upto_more n = let e : 1 + n ≡ n + 1 = omega arith in from_parts 1 n 1 ∙ rw e

pub filter_append : (p : ℕ → Bool) (xs ys : List ℕ) → filter p (xs ++ ys) ≡ filter p xs ++ filter p ys
unfolding filter
filter_append p [] ys = refl
filter_append p (x ∷ xs) ys = elim (dichotomy (p x)) [
  | inl e ↦ rw e (filter_append p xs ys)
  | inr e ↦ rw e (ap (λ l. x ∷ l) (filter_append p xs ys))
]

module _ {A : Type 0} where
  tabulate_more : (f : ℕ → A) (i n : ℕ) → tabulate f i (n + 1) ≡ tabulate f i n ++ (f (i + n) ∷ [])
  unfolding tabulate
  tabulate_more f i zero = rw (add-zero i)
  tabulate_more f i (suc n) =
      let e : suc n + 1 ≡ suc (n + 1) = omega arith in
      let d : i + suc n ≡ suc i + n = omega arith in
      rw (e, d) (ap (λ (l : List A). f i ∷ l) (tabulate_more f (suc i) n))

  -- an array that holds a list from its front on, and one more
  pub sets_more : (l xs : List A) (x : A) → set (sets l 0 xs) (length xs) x ≡ sets l 0 (xs ++ (x ∷ []))
  sets_more l xs x = sym (sets_append xs (x ∷ []) l 0 ∙ ap (λ (n : ℕ). set (sets l 0 xs) n x) (zero-add (length xs)))

  pub tabulated_more : (f : ℕ → A) (l : List A) (n : ℕ) (x : A) → x ≡ f n → set (sets l 0 (tabulate f 0 n)) n x ≡ sets l 0 (tabulate f 0 (n + 1))
  tabulated_more f l n x e =
      ap (λ (k : ℕ). set (sets l 0 (tabulate f 0 n)) k x) (sym (length_tabulate f 0 n)) ∙ sets_more l (tabulate f 0 n) x
      ∙ rw (e, tabulate_more f 0 n, zero-add n)

  pub mapped_more : (f : ℕ → A) (l : List A) (n : ℕ) (x : A) → x ≡ f (n + 1) → set (sets l 0 (map f (upto n))) n x ≡ sets l 0 (map f (upto (n + 1)))
  mapped_more f l n x e =
      ap (λ (k : ℕ). set (sets l 0 (map f (upto n))) k x) (sym (length-map (upto n) f ∙ length_from 1 n)) ∙ sets_more l (map f (upto n)) x
      ∙ rw (e, upto_more n, map_push f (upto n) (n + 1))

  -- a list more, behind those of the numbers before
  flat_more : (f : ℕ → List A) (n : ℕ) → flat_map f (upto (n + 1)) ≡ flat_map f (upto n) ++ f (n + 1)
  unfolding flat_map
  flat_more f n = ap (flat_map f) (upto_more n) ∙ flat_map-append f (upto n) ((n + 1) ∷ []) ∙ rw (append-nil (f (n + 1)))

  -- stored in the part of an array that they leave
  pub laid_more : (f : ℕ → List A) (l cells : List A) (n at m : ℕ) → cells ≡ sets l 0 (flat_map f (upto n)) → at ≡ length (flat_map f (upto n)) → length l ≡ m
      → at + length (f (n + 1)) ≤ m → {part : List A} → part ≡ sets (take (m - at) (drop at cells)) 0 (f (n + 1))
      → take at cells ++ (part ++ drop (m - at) (drop at cells)) ≡ sets l 0 (flat_map f (upto (n + 1)))
  laid_more f l cells n at m w b long room e =
      let before : List A = flat_map f (upto n) in
      let all : length cells ≡ m = ap length w ∙ length-sets l 0 before ∙ long in
      rw (e, sets_mid at (m - at) (f (n + 1)) cells (omega arith) (omega arith), w, b, flat_more f n)
      (sym (sets_append before (f (n + 1)) l 0 ∙ rw (zero-add (length before))))
