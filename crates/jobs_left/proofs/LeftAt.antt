-- An array that holds the k of an index: at the first index, one index on, and with one job of a kind completed.
-- Assumes nothing.
use Prim.Native.Nat.{ℕ, zero, suc, ◌+◌, ◌-◌, ◌≤◌, ◌<◌}
use mathlib.Core.List.{List, [], ◌∷◌}
use mathlib.Core.Path.{◌≡◌, refl, sym, ap, ap₂, ◌∙◌}
use native.Mathlib.Nat.{suc-mul, mul-le-mul_left}
use native.Mathlib.Omega.{arith}
use lib.ListN.{length, get_or, take, drop, set, replicate, length-set}
use Rattle.std.proofs.lemmas.List.{length-map, length-take, length-drop}
use lib.Seq.{take-set-lt, get_or-drop, get_or-set_other}
use Rattle.fields.proofs.Arrays.{get_d_zeros}
use Rattle.sequencing.specs.Lists.{at, weigh}
use Rattle.sequencing.specs.Problem.{Problem}
use Rattle.sequencing.specs.States.{complete, all_left}
use Rattle.sequencing.specs.Entries.{size, index, digits, stride, block, k_at}
use Rattle.sequencing.proofs.AllJobs.{length_all}
use Rattle.sequencing.proofs.Radix.{size_pos, digits_index, index_digits, digits_length, digits_le, index_complete, stride_pos}
use Rattle.sequencing.proofs.Vectors.{at_take, at_in, complete_length, at_complete}
use Rattle.jobs_left.specs.declared.Kind.{Kind}
use Rattle.jobs_left.specs.declared.JobsLeft.{JobsLeft}
use Rattle.jobs_left.specs.Kinds.{counts_of, weights_of}
use Rattle.jobs_left.specs.Steps.{next, Summed, LeftAt, LeftOf}
use Rattle.jobs_left.proofs.Stepping.{Stepped, next_digits, digits_zero}
use Rattle.jobs_left.proofs.Sums.{weigh_same}

-- ---- strides and digits

-- strides grow
pub stride_grows : (cs : List ℕ) (y x : ℕ) → y ≤ x → x ≤ length cs → stride cs y ≤ stride cs x
unfolding stride
stride_grows cs zero x l u = omega arith
stride_grows cs (suc y) zero l u = absurd (omega arith)
stride_grows [] (suc y) (suc x) l u = absurd (omega arith)
stride_grows (c ∷ cs) (suc zero) (suc zero) l u = omega arith
stride_grows (c ∷ cs) (suc zero) (suc (suc x)) l u = omega (arith, suc-mul c (stride cs (suc x)), stride_pos cs (suc x) (omega arith) (omega arith))
stride_grows (c ∷ cs) (suc (suc y)) (suc zero) l u = absurd (omega arith)
stride_grows (c ∷ cs) (suc (suc y)) (suc (suc x)) l u = mul-le-mul_left (suc c) (stride_grows cs (suc y) (suc x) (omega arith) (omega arith))

module _ (cs : List ℕ) (i x : ℕ) (in_size : i < size cs) (some : 0 < at (digits cs i) x) where
  -- one job of x less is x's stride less
  index_less : index cs (complete (digits cs i) x) + stride cs x ≡ i
  index_less = index_complete cs (digits cs i) x (digits_length cs i) some ∙ index_digits cs i in_size

  pub digits_complete : digits cs (i - stride cs x) ≡ complete (digits cs i) x
  digits_complete =
      let e : i - stride cs x ≡ index cs (complete (digits cs i) x) = omega (arith, index_less) in
      ap (digits cs) e
      ∙ digits_index cs (complete (digits cs i) x) (complete_length (digits cs i) x ∙ digits_length cs i)
      (λ j. omega (arith, at_complete (digits cs i) x j some, digits_le cs i j))

  -- the strides of the kinds up to x are no larger than the index
  pub stride_within : (y : ℕ) → y ≤ x → stride cs y ≤ i
  stride_within y h = omega (arith, index_less, stride_grows cs y x h (omega (arith, at_in (digits cs i) x some, digits_length cs i)))

-- ---- the array

pub take_zeros : (n m : ℕ) → n ≤ m → take n (replicate {A = ℕ} m 0) ≡ replicate n 0
take_zeros zero m h = refl
take_zeros (suc n) zero h = absurd (omega arith)
take_zeros (suc n) (suc m) h = ap (λ k. 0 ∷ k) (take_zeros n m (omega arith))

at_past : (n : ℕ) (xs ys : List ℕ) → drop n xs ≡ drop n ys → (j : ℕ) → n < j → at xs j ≡ at ys j
at_past n xs ys e zero h = absurd (omega arith)
at_past n xs ys e (suc j) h =
    let s : n + (j - n) ≡ j = omega arith in
    rw s at (sym (get_or-drop n xs (j - n) 0) ∙ ap (λ l. get_or l (j - n) 0) e ∙ get_or-drop n ys (j - n) 0)

at_set_past : (xs : List ℕ) (i a j : ℕ) → suc i < j → at (set xs i a) j ≡ at xs j
at_set_past xs i a zero h = absurd (omega arith)
at_set_past xs i a (suc j) h = get_or-set_other xs i j a 0 (λ e. omega arith)

module _ {P : Problem} where
  -- nothing is left
  pub left_none : P.N ≤ 5 → LeftAt P (replicate 5 0) 0
  left_none h = record {
    long = refl;
    here = take_zeros P.N 5 h ∙ sym (digits_zero (all_left P) ∙ ap (λ n. replicate n 0) (length_all P));
    past = zeros;
    within = size_pos (all_left P);
  }
    where
      zeros : (j : ℕ) → P.N < j → at (replicate 5 0) j ≡ 0
      zeros zero h = refl
      zeros (suc j) h = get_d_zeros 5 j

  module _ {left : List ℕ} {i : ℕ} (w : LeftAt P left i) where
    pub left_at : (x : ℕ) → 1 ≤ x → x ≤ P.N → at left x ≡ at (digits (all_left P) i) x
    left_at x l u = sym (at_take P.N left x u) ∙ ap (λ k. at k x) w.here

    -- a kind with a job left is one of the N
    pub left_in : (x : ℕ) → 0 < at left x → (1 ≤ x) × (x ≤ P.N)
    left_in x h = let no : P.N < x → ⊥ = λ g. omega (arith, w.past x g) in ((at_in left x h).0, omega arith)

    module _ (x : ℕ) (low : 1 ≤ x) (high : x ≤ P.N) (some : 0 < at left x) where
      some_digit : 0 < at (digits (all_left P) i) x
      some_digit = omega (arith, left_at x low high)

      -- a job of x is completed
      pub complete_digits : digits (all_left P) (i - stride (all_left P) x) ≡ complete (digits (all_left P) i) x
      complete_digits = digits_complete (all_left P) i x w.within some_digit

      pub stride_earlier : (y : ℕ) → y ≤ x → stride (all_left P) y ≤ i
      stride_earlier = stride_within (all_left P) i x w.within some_digit

    pub left_complete : (x : ℕ) → 1 ≤ x → x ≤ P.N → 0 < at left x → LeftAt P (set left (x - 1) (get_or left (x - 1) 0 - 1)) (i - stride (all_left P) x)
    left_complete zero l u h = absurd (omega arith)
    left_complete (suc m) l u h =
        let s : suc m - 1 ≡ m = omega arith in
        rw s record {
          long = length-set left m (get_or left m 0 - 1) ∙ w.long;
          here = take-set-lt P.N left m (get_or left m 0 - 1) u ∙ ap₂ (λ k a. set k m a) w.here (omega (arith, left_at (suc m) l u)) ∙ sym (complete_digits (suc m) l u h);
          past = λ j g. at_set_past left m _ j (omega arith) ∙ w.past j g;
          within = omega (arith, w.within);
        }

-- ---- a problem's kinds as the table counts them

-- the kinds count and weigh as those of the problem
pub record KindsOf (P : Problem) (kinds : List Kind) : Type 0 where
  pub counts_are : counts_of kinds ≡ all_left P
  pub weights_are : (j : ℕ) → 1 ≤ j → j ≤ P.N → get_or (weights_of kinds) (j - 1) 0 ≡ P.weight j

module _ {P : Problem} {kinds : List Kind} (known : KindsOf P kinds) where
  pub many_kinds : length kinds ≡ P.N
  many_kinds = sym (length-map kinds (λ (kind : Kind). kind.count)) ∙ ap length known.counts_are ∙ length_all P

  pub weigh_kinds : (k : List ℕ) → length k ≤ P.N → weigh (λ j. get_or (weights_of kinds) (j - 1) 0) k ≡ weigh P.weight k
  weigh_kinds k h = weigh_same (λ j. get_or (weights_of kinds) (j - 1) 0) P.weight k (λ j a u. known.weights_are j a (omega arith))

  weigh_here : (i : ℕ) → weigh (λ j. get_or (weights_of kinds) (j - 1) 0) (k_at P i) ≡ weigh P.weight (k_at P i)
  weigh_here i = weigh_kinds (k_at P i) (omega (arith, digits_length (all_left P) i, length_all P))

  module _ (k : JobsLeft) where
    -- what the sums over its kinds say of what is left of the problem's jobs
    pub summed_left : LeftAt P k.left k.index → Summed (weights_of kinds) (take (length kinds) k.left) k.jobs k.weight → LeftOf P k
    summed_left w s =
        let s = rw (many_kinds, w.here) at s in
        record { left_at = w; jobs_are = s.jobs_are; weight_is = s.weight_is ∙ weigh_here k.index }

    -- a step is to what is left at the next index
    module _ (k' : JobsLeft) (w : LeftAt P k.left k.index) (s : Stepped kinds k.left k'.left) where
      step_is : take P.N k'.left ≡ digits (all_left P) (suc k.index)
      step_is = rw (many_kinds, known.counts_are) at s.left_after ∙ ap (next (all_left P)) w.here ∙ next_digits (all_left P) k.index

      rest_is : drop P.N k'.left ≡ drop P.N k.left
      rest_is = rw many_kinds at s.left_unchanged

      long_stepped : length k'.left ≡ 5
      long_stepped = omega (
        arith,
        length-take P.N k.left,
        length-take P.N k'.left,
        length-drop P.N k.left,
        length-drop P.N k'.left,
        ap length w.here,
        ap length step_is,
        ap length rest_is,
        digits_length (all_left P) k.index,
        digits_length (all_left P) (suc k.index),
        length_all P,
        w.long,
      )

      pub left_stepped : k'.index ≡ suc k.index → suc k.index < block P → LeftAt P k'.left k'.index
      left_stepped e h = rw e record { long = long_stepped; here = step_is; past = λ j l. at_past P.N k'.left k.left rest_is j l ∙ w.past j l; within = h }
