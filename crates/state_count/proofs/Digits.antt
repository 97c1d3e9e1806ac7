-- How many indexes have a digit below its largest.
-- Assumes nothing.
use mathlib.Core.List.{List, [], ◌∷◌, map}
use mathlib.Core.Option.{some}
use mathlib.Core.Path.{◌≡◌, refl, sym, ap, ap₂, ◌∙◌}
use Prim.Native.Nat.{ℕ, zero, suc, pred, ◌+◌, ◌*◌, ◌/◌, ◌%◌, ◌<◌}
use native.Mathlib.Nat.{zero-mul, one-mul, mul_comm, mul_assoc, mul_left_comm, mod-eq_of_lt, div-eq_of_lt, mul-add-div_right, mul-add-mod_self_right}
use native.Mathlib.Omega.{arith}
use borrow.Author.Tests.{lt-ltb, le-ltb}
use lib.Dec.{ltb}
use lib.ListN.{get_or, take, drop}
use Rattle.sequencing.specs.Lists.{from, sum}
use Rattle.sequencing.specs.Least.{only}
use Rattle.sequencing.specs.Entries.{size, digits}
use Rattle.sequencing.specs.Counts.{valued}
use Rattle.sequencing.proofs.Counting.{sum_map_ones}
use Rattle.sequencing.proofs.Sums.{sum_more, sum_same, sum_blocks, sum_swap}
use Rattle.state_count.proofs.Sums.{sum_const, sum_pred}

-- over all indexes, by their first digit and the rest
sum_digits : (F : ℕ → ℕ → ℕ) (c n : ℕ)
    → sum (map (λ i. F (i % suc c) (i / suc c)) (from 0 (suc c * n))) ≡ sum (map (λ j. sum (map (λ a. F a (pred j)) (from 0 (suc c)))) (from 1 n))
sum_digits F c n =
    ap (λ m. sum (map (λ i. F (i % suc c) (i / suc c)) (from 0 m))) (mul_comm (suc c) n)
    ∙ sum_blocks (λ i. F (i % suc c) (i / suc c)) (suc c) n
    ∙ sum_same _ _ 1 n (λ j l u. sum_same _ (λ a. F a (pred j)) 0 (suc c) (λ a z h. let h' : a < suc c = omega arith in
    ap₂ F (mul-add-mod_self_right (pred j) (suc c) a ∙ mod-eq_of_lt h') (omega (arith, mul-add-div_right {m = suc c} (omega arith) (pred j) a, div-eq_of_lt h'))))

-- 1 where a digit is below its largest, c
abbrev pub below : ℕ → ℕ → ℕ
below a c = valued (only (ltb a c) (some 0))

-- of the digits 0 to c, c are
below_all : (c : ℕ) → sum (map (λ a. below a c) (from 0 (suc c))) ≡ c
below_all c = omega (
  arith,
  sum_more (λ a. below a c) 0 c,
  sum_map_ones (λ a. below a c) 0 c (λ a l u. rw (lt-ltb a c (omega arith)) refl),
  last,
)
  where
    last : below (0 + c) c ≡ 0
    last = rw (le-ltb (0 + c) c (omega arith)) refl

-- for one place, c_j times the product of all other (c_i + 1)
pub digits_below : (cs : List ℕ) (j : ℕ)
    → sum (map (λ i. below (get_or (digits cs i) j 0) (get_or cs j 0)) (from 0 (size cs))) ≡ get_or cs j 0 * (size (take j cs) * size (drop (suc j) cs))
unfolding sum from size digits
digits_below [] j = rw (zero-mul (size (take j []) * size (drop (suc j) []))) refl
digits_below (c ∷ cs) zero =
    sum_digits (λ a b. below a c) c (size cs) ∙ sum_same _ (λ j. c) 1 (size cs) (λ j l u. below_all c) ∙ sum_const c 1 (size cs)
    ∙ mul_comm (size cs) c ∙ ap (λ n. c * n) (sym (one-mul (size cs)))
digits_below (c ∷ cs) (suc j) =
    let g : ℕ → ℕ = λ b. below (get_or (digits cs b) j 0) (get_or cs j 0) in
    sum_digits (λ a b. g b) c (size cs)
    ∙ sum_swap (λ L a. g (pred L)) (from 1 (size cs)) (from 0 (suc c))
    ∙ sum_const (sum (map (λ L. g (pred L)) (from 1 (size cs)))) 0 (suc c)
    ∙ ap (λ n. suc c * n) (sum_pred g 0 (size cs) ∙ digits_below cs j)
    ∙ mul_left_comm (suc c) (get_or cs j 0) (size (take j cs) * size (drop (suc j) cs))
    ∙ ap (λ n. get_or cs j 0 * n) (sym (mul_assoc (suc c) (size (take j cs)) (size (drop (suc j) cs))))
