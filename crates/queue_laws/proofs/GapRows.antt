-- Gap rows that are placed in a record are found there again.
-- Assumes nothing.
use Prim.Native.Nat.{ℕ, zero, suc, ◌+◌, ◌-◌, ◌<◌, ◌≤◌}
use mathlib.Core.Path.{◌≡◌, refl, sym, ap, ◌∙◌}
use mathlib.Core.List.{List, [], ◌∷◌}
use native.Mathlib.Omega.{arith}
use native.Mathlib.Nat.{zero-add}
use lib.ListN.{length, get_or, take, drop, replicate}
use lib.Seq.{sets, length-sets}
use Rattle.fields.specs.Fields.{part}
use Rattle.fields.specs.Lists.{tabulate}
use Rattle.fields.proofs.Codecs.{All}
use Rattle.fields.proofs.Tables.{tabulate_ext, tabulate_part, part_sets}
use Rattle.fields.proofs.Arrays.{tabulate_list, take_sets}
use Rattle.gaps.specs.Gaps.{gap_row, gap_at}
use Rattle.queue.specs.Reading.{placed}

-- rows placed further on leave what stands before them
placed_front : (rows : List (List ℕ)) (gaps : List ℕ) (k m : ℕ) → m ≤ gap_row k → take m (placed gaps k rows) ≡ take m gaps
unfolding placed
placed_front [] gaps k m h = refl
placed_front (r ∷ rs) gaps k m h = placed_front rs (sets gaps (gap_row k) r) (suc k) m (omega arith) ∙ take_sets m gaps (gap_row k) r h

pub placed_length : (rows : List (List ℕ)) (gaps : List ℕ) (k : ℕ) → length (placed gaps k rows) ≡ length gaps
unfolding placed
placed_length [] gaps k = refl
placed_length (r ∷ rs) gaps k = placed_length rs (sets gaps (gap_row k) r) (suc k) ∙ length-sets gaps (gap_row k) r

-- a part is the end of a front
drop_take : (i n : ℕ) (l : List ℕ) → drop i (take (i + n) l) ≡ part i n l
drop_take zero n l = ap (λ (m : ℕ). take m l) (zero-add n)
drop_take (suc i) n [] = let e : suc i + n ≡ suc (i + n) = omega arith in rw e (take_none n)
  where
    take_none : (m : ℕ) → ◌≡◌ {A = List ℕ} [] (take m [])
    take_none zero = refl
    take_none (suc m) = refl
drop_take (suc i) n (x ∷ l) = let e : suc i + n ≡ suc (i + n) = omega arith in rw e (drop_take i n l)

part_same : (i n : ℕ) (a b : List ℕ) → take (i + n) a ≡ take (i + n) b → part i n a ≡ part i n b
part_same i n a b e = sym (drop_take i n a) ∙ ap (drop i) e ∙ drop_take i n b

-- row i of those placed stands where it begins
placed_part : (n : ℕ) → n ≤ 5 → (rows : List (List ℕ)) (gaps : List ℕ) (k i : ℕ) → All (λ r. length r ≡ n) rows
    → gap_row (k + length rows) ≤ length gaps → i < length rows → part (gap_row (k + i)) n (placed gaps k rows) ≡ get_or rows i []
unfolding placed
placed_part n five [] gaps k i h room l = absurd (omega arith)
placed_part n five (r ∷ rs) gaps k zero h room l =
    let e : k + 0 ≡ k = omega arith in
    rw e
    (part_same (gap_row k) n (placed (sets gaps (gap_row k) r) (suc k) rs) (sets gaps (gap_row k) r) (placed_front rs (sets gaps (gap_row k) r) (suc k) (gap_row k + n) (omega arith))
    ∙ ap (λ (m : ℕ). part (gap_row k) m (sets gaps (gap_row k) r)) (sym h.0)
    ∙ part_sets gaps (gap_row k) r (omega (arith, h.0)))
placed_part n five (r ∷ rs) gaps k (suc i) h room l =
    let e : k + suc i ≡ suc k + i = omega arith in
    rw e (placed_part n five rs (sets gaps (gap_row k) r) (suc k) i h.1 (omega (arith, length-sets gaps (gap_row k) r)) (omega arith))

-- rows of N numbers, placed among zeros, are the gap rows of that array
pub rows_back : (n : ℕ) (rows : List (List ℕ)) → n ≤ 5 → length rows ≡ n + 1 → All (λ r. length r ≡ n) rows
    → tabulate (λ i. tabulate (gap_at (placed (replicate 30 0) 0 rows) i) 1 n) 0 (n + 1) ≡ rows
rows_back n rows five long wide =
    tabulate_ext (λ i. tabulate (gap_at (placed (replicate 30 0) 0 rows) i) 1 n) (λ i. get_or rows (i - 0) []) 0 (n + 1) row
    ∙ ap (tabulate (λ i. get_or rows (i - 0) []) 0) (sym long)
    ∙ tabulate_list rows [] 0
  where
    row : (i : ℕ) → 0 ≤ i → i < 0 + (n + 1) → tabulate (gap_at (placed (replicate 30 0) 0 rows) i) 1 n ≡ get_or rows (i - 0) []
    row i l u =
        let a : i - 0 ≡ i = omega arith in
        let b : 0 + i ≡ i = omega arith in
        tabulate_part (placed (replicate 30 0) 0 rows) (gap_row i) n (omega (arith, placed_length rows (replicate 30 0) 0))
        ∙ rw a (rw b at (placed_part n five rows (replicate 30 0) 0 i wide (omega arith) (omega (arith, long))))
