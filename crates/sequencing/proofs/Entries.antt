-- Entry numbers: one to one from the pairs (L; k) onto 0 to N × P − 1, and what the entries hold.
-- Assumes nothing.
use mathlib.Core.List.{List}
use mathlib.Core.Logic.{inl, inr}
use mathlib.Core.Option.{some}
use mathlib.Core.Path.{◌≡◌, refl, sym, ap, ap₂, ◌∙◌, fun_ext}
use mathlib.Mathlib.Data.Bool.Basic.{dichotomy}
use Prim.Native.Nat.{ℕ, suc, pred, ◌+◌, ◌-◌, ◌*◌, ◌/◌, ◌%◌, ◌<◌}
use native.Mathlib.Nat.{suc-mul, mul-le-mul_right, mod-lt, mod-eq_of_lt, div-eq_of_lt, div-add-mod', div-lt_iff_lt-mul, mul-add-div_right, mul-add-mod_self_right}
use native.Mathlib.Omega.{arith}
use lib.Dec.{ltb, ltb→lt}
use lib.ListN.{length}
use Rattle.sequencing.specs.Lists.{at, sum}
use Rattle.sequencing.specs.Problem.{Problem}
use Rattle.sequencing.specs.States.{complete, all_left, IsLeft, IsPair}
use Rattle.sequencing.specs.Least.{least, arg_least}
use Rattle.sequencing.specs.Recursion.{permit, step, value, choice, plan_cost}
use Rattle.sequencing.specs.Entries.{index, digits, stride, block, entries, number, entry_kind, entry_left, entry}
use Rattle.sequencing.proofs.AllJobs.{length_all, all_left_lem, below_all}
use Rattle.sequencing.proofs.JobsLeft.{next_pair}
use Rattle.sequencing.proofs.Radix.{size_pos, index_in, digits_index, index_digits, digits_length, digits_le, index_complete}
use Rattle.sequencing.proofs.Equations.{value_none_left, value_some_left, plan_some_left}

module _ (P : Problem) where
  -- every index gives a k of a state
  pub left_digits : (i : ℕ) → IsLeft P (digits (all_left P) i)
  left_digits i = record { long = digits_length (all_left P) i ∙ length_all P; within = λ j. omega (arith, digits_le (all_left P) i j, (all_left_lem P).within j) }

  module _ (L : ℕ) (k : List ℕ) (p : IsPair P L k) where
    long : length k ≡ length (all_left P)
    long = p.left.long ∙ sym (length_all P)

    index_left : index (all_left P) k < block P
    index_left = index_in (all_left P) k long (below_all P k p.left)

    -- 01's formula numbers every pair below N × P
    pub number_in : number P L k < entries P
    unfolding number
    number_in = omega (arith, index_left, p.low, suc-mul (pred L) (block P), mul-le-mul_right {m = suc (pred L)} {n = P.N} (block P) (omega (arith, p.low, p.high)))

    -- a pair's number gives the pair back: no two pairs share one
    pub kind_number : entry_kind P (number P L k) ≡ L
    unfolding number entry_kind
    kind_number = omega (arith, mul-add-div_right {m = block P} (size_pos (all_left P)) (pred L) (index (all_left P) k), div-eq_of_lt index_left, p.low)

    pub left_number : entry_left P (number P L k) ≡ k
    unfolding number entry_left
    left_number = ap (digits (all_left P)) (mul-add-mod_self_right (pred L) (block P) (index (all_left P) k) ∙ mod-eq_of_lt index_left)
        ∙ digits_index (all_left P) k long (below_all P k p.left)

  module _ (n : ℕ) where
    -- every number below N × P has a pair
    pub pair_in : n < entries P → IsPair P (entry_kind P n) (entry_left P n)
    unfolding entry_kind entry_left
    pair_in h = record {
      low = omega arith;
      high = (div-lt_iff_lt-mul {k = block P} {x = n} {y = P.N} (size_pos (all_left P))).1 h;
      left = left_digits (n % block P);
    }

    -- and is that pair's number
    pub number_pair : number P (entry_kind P n) (entry_left P n) ≡ n
    unfolding number entry_kind entry_left
    number_pair = ap (λ i. n / block P * block P + i) (index_digits (all_left P) (n % block P) (mod-lt n (size_pos (all_left P)))) ∙ div-add-mod' n (block P)

  module _ (k : List ℕ) (x : ℕ) (s : IsLeft P k) (h : 0 < at k x) where
    -- the next state by way of x stands x's stride lower, in x's block
    pub number_next : number P x (complete k x) + stride (all_left P) x ≡ number P x k
    unfolding number
    number_next = omega (arith, index_complete (all_left P) k x (s.long ∙ sym (length_all P)) h)

  -- ---- what the entries hold

  -- a pair's entry holds its value
  pub entry_is : (L : ℕ) (k : List ℕ) → IsPair P L k → entry P (number P L k) ≡ value P L k
  entry_is L k p = ap₂ (value P) (kind_number L k p) (left_number L k p)

  module _ (L : ℕ) (k : List ℕ) (s : IsLeft P k) where
    choice_entry : (x : ℕ) → choice P L k x ≡ step P L k x (entry P (number P x k - stride (all_left P) x))
    unfolding choice
    choice_entry x = elim (dichotomy (ltb 0 (at k x))) [
      | inr q ↦ (let h = ltb→lt 0 (at k x) (rw q tt) in
          let e : number P x k - stride (all_left P) x ≡ number P x (complete k x) = omega (arith, number_next k x s h) in
          ap (step P L k x) (sym (ap (entry P) e ∙ entry_is x (complete k x) (next_pair P k x s h))))
      | inl q ↦ rw q refl
    ]

    -- the least over the kinds, read from the entries of the next states
    least_entries : least (choice P L k) P.N ≡ least (λ x. step P L k x (entry P (number P x k - stride (all_left P) x))) P.N
    least_entries = ap (λ f. least f P.N) (fun_ext choice_entry)

    -- and the smallest kind that reaches it
    pub take_entries : arg_least (choice P L k) P.N ≡ arg_least (λ x. step P L k x (entry P (number P x k - stride (all_left P) x))) P.N
    take_entries = ap (λ f. arg_least f P.N) (fun_ext choice_entry)

  -- an entry where nothing is left
  pub entry_none_left : (L : ℕ) (k : List ℕ) → IsPair P L k → sum k ≡ 0 → entry P (number P L k) ≡ permit P L k (some 0)
  entry_none_left L k p e = entry_is L k p ∙ value_none_left P L k e

  -- an entry where something is left, from those of its next states
  pub entry_some_left : (L : ℕ) (k : List ℕ) → IsPair P L k → 0 < sum k
      → entry P (number P L k) ≡ permit P L k (least (λ x. step P L k x (entry P (number P x k - stride (all_left P) x))) P.N)
  entry_some_left L k p h = entry_is L k p ∙ value_some_left P L k h ∙ ap (permit P L k) (least_entries L k p.left)

  -- the plan's cost from the entries
  pub plan_entries : 0 < sum (all_left P) → plan_cost P ≡ least (λ x. step P P.start (all_left P) x (entry P (number P x (all_left P) - stride (all_left P) x))) P.N
  plan_entries h = plan_some_left P h ∙ least_entries P.start (all_left P) (all_left_lem P)
