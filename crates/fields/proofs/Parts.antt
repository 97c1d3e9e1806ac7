-- Parts of a list of values, and values stored one after the other.
-- Assumes nothing.
use Prim.Native.Nat.{ℕ, zero, suc, ◌+◌, ◌-◌, ◌<◌, ◌≤◌}
use mathlib.Core.Path.{◌≡◌, sym, ap, ◌∙◌}
use mathlib.Core.List.{List, [], ◌∷◌, ◌++◌, append_assoc}
use native.Mathlib.Omega.{arith}
use native.Mathlib.Nat.{add-zero, zero-add}
use lib.ListN.{length, get_or, take, drop, set, length-drop}
use lib.Seq.{sets, sets-eq, drop-cons, drop-drop, drop-append-le, length-take-le}
use Rattle.std.proofs.Common.{take-append-drop}
use Rattle.fields.specs.Fields.{part}

pub part_more : (values : List ℕ) (from n : ℕ) → 0 < n → from + n ≤ length values
    → part from n values ≡ get_or values from 0 ∷ part (from + 1) (n - 1) values
part_more values from zero h l = absurd (omega arith)
part_more values from (suc n) h l =
    let e : suc n - 1 ≡ n = omega arith in
    let f : from + 1 ≡ suc from = omega arith in
    rw (drop-cons values from 0 (omega arith), e, f)

pub part_length : (values : List ℕ) (from n : ℕ) → from + n ≤ length values → length (part from n values) ≡ n
part_length values from n h = length-take-le n (drop from values) (omega (arith, length-drop from values))

-- what is stored behind what was stored
pub sets_append : {A : Type 0} (xs ys l : List A) (i : ℕ) → sets l i (xs ++ ys) ≡ sets (sets l i xs) (i + length xs) ys
sets_append [] ys l i = rw add-zero
sets_append (x ∷ xs) ys l i =
    let e : i + suc (length xs) ≡ suc i + length xs = omega arith in
    rw e (sets_append xs ys (set l i x) (suc i))

-- ---- what is stored in a part that is lent

sets_first : {A : Type 0} (vs l : List A) → length vs ≤ length l → sets l 0 vs ≡ vs ++ drop (length vs) l
sets_first vs l h = sets-eq vs l 0 (omega arith) ∙ ap (λ (n : ℕ). vs ++ drop n l) (zero-add (length vs))

pub sets_front : {A : Type 0} (n : ℕ) (vs l : List A) → length vs ≤ n → n ≤ length l → sets (take n l) 0 vs ++ drop n l ≡ sets l 0 vs
sets_front {A} n vs l h u =
    let long : length (take n l) ≡ n = length-take-le n l u in
    ap (λ (x : List A). x ++ drop n l) (sets_first vs (take n l) (omega (arith, long)))
    ∙ append_assoc vs (drop (length vs) (take n l)) (drop n l)
    ∙ ap (λ (x : List A). vs ++ x) (sym (drop-append-le (length vs) (take n l) (drop n l) (omega (arith, long))) ∙ ap (drop (length vs)) (take-append-drop n l))
    ∙ sym (sets_first vs l (omega arith))

pub sets_mid : {A : Type 0} (a k : ℕ) (vs l : List A) → length vs ≤ k → a + k ≤ length l
    → take a l ++ (sets (take k (drop a l)) 0 vs ++ drop k (drop a l)) ≡ sets l a vs
sets_mid {A} a k vs l h u =
    let long : length (drop a l) ≡ length l - a = length-drop a l in
    ap (λ (x : List A). take a l ++ x)
    (sets_front k vs (drop a l) h (omega (arith, long)) ∙ sets_first vs (drop a l) (omega (arith, long)) ∙ ap (λ (x : List A). vs ++ x) (drop-drop (length vs) a l))
    ∙ sym (append_assoc (take a l) vs (drop (a + length vs) l))
    ∙ sym (sets-eq vs l a (omega arith))
