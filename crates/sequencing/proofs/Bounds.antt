-- How large a value can be, under any bounds on gaps and weights.
-- Assumes nothing.
use mathlib.Core.List.{List, [], ◌∷◌}
use mathlib.Core.Logic.{inl, inr}
use mathlib.Core.Option.{some}
use mathlib.Core.Path.{◌≡◌, refl, sym, ◌∙◌}
use mathlib.Mathlib.Data.Bool.Basic.{dichotomy}
use Prim.Native.Nat.{ℕ, zero, suc, ◌+◌, ◌*◌, ◌≤◌, ◌<◌}
use native.Mathlib.Nat.{mul_assoc, add-mul, mul-le-mul, mul-le-mul_left}
use native.Mathlib.Omega.{arith}
use lib.Dec.{eqb}
use lib.ListN.{length}
use Rattle.gaps.specs.Gaps.{seconds_of}
use Rattle.sequencing.specs.Lists.{at, sum, weigh}
use Rattle.sequencing.specs.Problem.{Problem}
use Rattle.sequencing.specs.States.{complete, all_left, IsLeft, IsPair}
use Rattle.sequencing.specs.Least.{arg_least}
use Rattle.sequencing.specs.Recursion.{W, cost_to_go, value, choice, plan_cost}
use Rattle.sequencing.specs.Limits.{Limits, triangle}
use Rattle.sequencing.proofs.Vectors.{complete_sum, at_in}
use Rattle.sequencing.proofs.AllJobs.{all_left_lem}
use Rattle.sequencing.proofs.JobsLeft.{complete_left, next_pair}
use Rattle.sequencing.proofs.Options.{some_eq}
use Rattle.sequencing.proofs.Least.{smallest}
use Rattle.sequencing.proofs.Equations.{cost_none_left, cost_some_left}
use Rattle.sequencing.proofs.Recursion.{value_some, choice_some}

pub weigh_le : (f : ℕ → ℕ) (w : ℕ) (k : List ℕ) → ((j : ℕ) → 1 ≤ j → j ≤ length k → f j ≤ w) → weigh f k ≤ sum k * w
unfolding weigh sum
weigh_le f w [] h = omega arith
weigh_le f w (c ∷ cs) h = rw (add-mul c (sum cs) w)
    (omega (arith, mul-le-mul_left c (h 1 (omega arith) (omega arith)), weigh_le (λ j. f (suc j)) w cs (λ j l u. h (suc j) (omega arith) (omega arith))))

pub triangle_mono : (m n : ℕ) → m ≤ n → triangle m ≤ triangle n
unfolding triangle
triangle_mono zero n h = omega arith
triangle_mono (suc m) zero h = absurd (omega arith)
triangle_mono (suc m) (suc n) h = omega (arith, triangle_mono m n (omega arith))

triangle_step : (n m p : ℕ) → suc n ≡ m → triangle m * p ≡ m * p + triangle n * p
unfolding triangle
triangle_step n m p e = rw (← e) (add-mul (suc n) (triangle n) p)

module _ (P : Problem) (g w : ℕ) (b : Limits P g w) where
  -- with n jobs left a second costs at most n × w
  W_le : (k : List ℕ) → IsLeft P k → 0 < sum k → W P k ≤ sum k * w
  unfolding W
  W_le k s h = elim (dichotomy (eqb P.goal 1)) [
    | inr e ↦ rw e (mul-le-mul {n₁ = 1} {m₁ = 1} {n₂ = sum k} {m₂ = w} (omega arith) b.positive)
    | inl e ↦ rw e (weigh_le P.weight w k (λ j l u. b.weights j l (omega (arith, s.long))))
  ]

  step_le : (L : ℕ) (k : List ℕ) (x d : ℕ) → L ≤ P.N → IsLeft P k → 0 < at k x → d ≤ triangle (sum (complete k x)) * (w * g)
      → W P k * seconds_of (P.gap L x) + d ≤ triangle (sum k) * (w * g)
  step_le L k x d l s h u =
      let q = at_in k x h in
      let v : 0 < sum k = omega (arith, complete_sum k x h) in
      omega (
        arith,
        mul-le-mul (W_le k s v) (b.gaps L x l q.0 (omega (arith, s.long))),
        mul_assoc (sum k) w g,
        triangle_step (sum (complete k x)) (sum k) (w * g) (complete_sum k x h),
      )

  cost_le : (n L : ℕ) (k : List ℕ) (c : ℕ) → sum k ≡ n → L ≤ P.N → IsLeft P k → cost_to_go P L k ≡ some c → c ≤ triangle (sum k) * (w * g)
  cost_le zero L k c z l s e = omega (arith, some_eq c 0 (sym e ∙ cost_none_left P L k z))
  cost_le (suc n) L k c z l s e =
      let x = arg_least (choice P L k) P.N in
      let m = smallest (choice P L k) P.N c (sym (cost_some_left P L k (omega arith)) ∙ e) in
      let (d, h, f, v, q) = choice_some P L k x c m.reached in
      rw q (step_le L k x d l s h
      (cost_le n x (complete k x) d (omega (arith, complete_sum k x h)) m.high (complete_left P k x s h) (value_some P x (complete k x) d v).2))

  -- no value is above w × g × (1 + 2 + .. + n) with n jobs left
  pub value_le : (L : ℕ) (k : List ℕ) (c : ℕ) → IsPair P L k → value P L k ≡ some c → c ≤ triangle (sum k) * (w * g)
  value_le L k c p e = cost_le (sum k) L k c refl p.high p.left (value_some P L k c e).2

  -- nor is what any kind comes to as the next one
  pub choice_le : (L : ℕ) (k : List ℕ) (x c : ℕ) → L ≤ P.N → IsLeft P k → choice P L k x ≡ some c → c ≤ triangle (sum k) * (w * g)
  choice_le L k x c l s e =
      let (d, h, f, v, q) = choice_some P L k x c e in
      rw q (step_le L k x d l s h (value_le x (complete k x) d (next_pair P k x s h) v))

  -- nor is the plan's cost
  pub plan_le : (c : ℕ) → plan_cost P ≡ some c → c ≤ triangle (sum (all_left P)) * (w * g)
  unfolding plan_cost
  plan_le c e = cost_le (sum (all_left P)) P.start (all_left P) c refl b.start (all_left_lem P) e
