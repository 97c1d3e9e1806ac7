-- Bytes that begin with a number, or with so many numbers, begin with no others.
-- Assumes nothing.
use Prim.Native.Nat.{ℕ, zero, suc, ◌+◌, ◌^◌, ◌<◌, ◌≤◌}
use mathlib.Core.Path.{◌≡◌, refl, sym, ap, ap₂, ◌∙◌}
use mathlib.Core.List.{List, [], ◌∷◌, ◌++◌, append_assoc, flat_map}
use native.Mathlib.Omega.{arith}
use native.Mathlib.Nat.{pow-suc}
use lib.ListN.{length, drop}
use lib.Seq.{drop-append_seam}
use Rattle.number.specs.Readers.{found}
use Rattle.number.specs.Numbers.{number, encode}
use Rattle.number.proofs.Steps.{found_value}
use Rattle.fields.specs.Fields.{encode_all}
use Rattle.fields.proofs.RoundTrip.{number_written}

below_power : (k v : ℕ) → v ≤ k → v < 128 ^ suc k
below_power zero v h = omega (arith, pow-suc 128 0)
below_power (suc k) v h = omega (arith, pow-suc 128 (suc k), below_power k k (omega arith))

-- what stands behind the same beginning
pub rest_same : (xs s t : List ℕ) → xs ++ s ≡ xs ++ t → s ≡ t
rest_same xs s t e = sym (drop-append_seam xs s) ∙ ap (drop (length xs)) e ∙ drop-append_seam xs t

-- bytes that begin with a number begin with no other
pub number_first : (v w : ℕ) (s t : List ℕ) → encode v ++ s ≡ encode w ++ t → (v ≡ w) × (s ≡ t)
number_first v w s t e =
    let reads : (x : ℕ) (rest : List ℕ) → x ≤ v + w → number (suc (v + w)) (encode x ++ rest) 0 ≡ found x (0 + length (encode x)) =
    λ x rest h. number_written (suc (v + w)) (encode x ++ rest) 0 x rest (omega arith) (below_power (v + w) x h) refl in
    let same : v ≡ w =
    found_value v w _ _ (sym (reads v s (omega arith)) ∙ ap (λ (l : List ℕ). number (suc (v + w)) l 0) e ∙ reads w t (omega arith)) in
    (same, rest_same (encode v) s t (e ∙ ap (λ (x : ℕ). encode x ++ t) (sym same)))

-- nor do bytes that begin with so many numbers begin with so many others
pub numbers_first : (xs ys : List ℕ) → length xs ≡ length ys → (s t : List ℕ) → encode_all xs ++ s ≡ encode_all ys ++ t → (xs ≡ ys) × (s ≡ t)
unfolding flat_map
numbers_first [] [] n s t e = (refl, e)
numbers_first [] (y ∷ ys) n s t e = absurd (omega arith)
numbers_first (x ∷ xs) [] n s t e = absurd (omega arith)
numbers_first (x ∷ xs) (y ∷ ys) n s t e =
    let (here, more) = number_first x y (encode_all xs ++ s) (encode_all ys ++ t)
    (sym (append_assoc (encode x) (encode_all xs) s) ∙ e ∙ append_assoc (encode y) (encode_all ys) t) in
    let (rest, end) = numbers_first xs ys (omega arith) s t more in
    (ap₂ ◌∷◌ here rest, end)
