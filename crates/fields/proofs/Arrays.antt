-- Arrays that hold a list, read element by element.
-- Assumes nothing.
use Prim.Native.Nat.{ℕ, zero, suc, ◌+◌, ◌-◌, ◌<◌, ◌≤◌}
use mathlib.Core.Path.{◌≡◌, refl, sym, ap, ◌∙◌}
use mathlib.Core.List.{List, [], ◌∷◌}
use native.Mathlib.Omega.{arith}
use lib.ListN.{length, get_or, take, set, replicate, length-replicate}
use lib.Seq.{sets, length-sets, take-set-le, get_or-set_other}
use Rattle.fields.specs.Fields.{part}
use Rattle.fields.specs.Lists.{tabulate, filled}
use Rattle.fields.proofs.Tables.{tabulate_ext, list_part, part_sets}

-- an array of m gives back the n numbers that it was filled with
pub array_back : (m n : ℕ) (vs : List ℕ) → length vs ≡ n → n ≤ m → tabulate (λ j. get_or (filled m vs) (j - 1) 0) 1 n ≡ vs
array_back m n vs long few =
    let zeros : List ℕ = replicate m 0 in
    list_part (filled m vs) n (omega (arith, length-sets zeros 0 vs, length-replicate {A = ℕ} m 0))
    ∙ ap (λ (k : ℕ). part 0 k (filled m vs)) (sym long)
    ∙ part_sets zeros 0 vs (omega (arith, length-replicate {A = ℕ} m 0))

-- a list by its elements
pub tabulate_list : {A : Type 0} (xs : List A) (d : A) (i : ℕ) → tabulate (λ k. get_or xs (k - i) d) i (length xs) ≡ xs
unfolding tabulate
tabulate_list {A} [] d i = refl
tabulate_list {A} (x ∷ xs) d i =
    let e : i - i ≡ 0 = omega arith in
    rw e (ap (λ (l : List A). x ∷ l) (tabulate_ext (λ k. get_or (x ∷ xs) (k - i) d) (λ k. get_or xs (k - suc i) d) (suc i) (length xs) (later xs) ∙ tabulate_list xs d (suc i)))
  where
    later : (ys : List A) (k : ℕ) → suc i ≤ k → k < suc i + length xs → get_or (x ∷ ys) (k - i) d ≡ get_or ys (k - suc i) d
    later ys k l u = let e : k - i ≡ suc (k - suc i) = omega arith in rw e

-- what is stored further on leaves the front as it was
pub take_sets : (m : ℕ) (l : List ℕ) (i : ℕ) (vs : List ℕ) → m ≤ i → take m (sets l i vs) ≡ take m l
take_sets m l i [] h = refl
take_sets m l i (v ∷ vs) h = take_sets m (set l i v) (suc i) vs (omega arith) ∙ take-set-le m l i v h

-- and past what is stored nothing changes
pub get_d_sets_past : (l : List ℕ) (i : ℕ) (vs : List ℕ) (k : ℕ) → i + length vs ≤ k → get_or (sets l i vs) k 0 ≡ get_or l k 0
get_d_sets_past l i [] k h = refl
get_d_sets_past l i (v ∷ vs) k h = get_d_sets_past (set l i v) (suc i) vs k (omega arith) ∙ get_or-set_other l i k v 0 (λ e. omega arith)

pub get_d_sets_before : (l : List ℕ) (i : ℕ) (vs : List ℕ) (k : ℕ) → k < i → get_or (sets l i vs) k 0 ≡ get_or l k 0
get_d_sets_before l i [] k h = refl
get_d_sets_before l i (v ∷ vs) k h = get_d_sets_before (set l i v) (suc i) vs k (omega arith) ∙ get_or-set_other l i k v 0 (λ e. omega arith)

pub get_d_zeros : (m k : ℕ) → get_or {A = ℕ} (replicate m 0) k 0 ≡ 0
get_d_zeros zero k = refl
get_d_zeros (suc m) zero = refl
get_d_zeros (suc m) (suc k) = get_d_zeros m k

-- an array holds 0 past its list
pub filled_past : (m : ℕ) (vs : List ℕ) (k : ℕ) → length vs ≤ k → get_or (filled m vs) k 0 ≡ 0
filled_past m vs k h = get_d_sets_past (replicate m 0) 0 vs k (omega arith) ∙ get_d_zeros m k
