-- The recursion finds the least over all sequences that fill, and its walk reaches it.
-- Assumes nothing.
use mathlib.Core.List.{List, [], ◌∷◌}
use mathlib.Core.Logic.{◌≢◌}
use mathlib.Core.Option.{some}
use mathlib.Core.Path.{◌≡◌, refl, sym, ap, ◌∙◌}
use Prim.Native.Nat.{ℕ, zero, suc, ◌+◌, ◌*◌, ◌<◌}
use native.Mathlib.Omega.{arith}
use lib.Dec.{T as Is, ltb, ltb→lt, lt→ltb}
use Rattle.gaps.specs.declared.Gap.TheVariants.{Never}
use Rattle.gaps.specs.Gaps.{seconds_of}
use Rattle.sequencing.specs.Lists.{at, sum}
use Rattle.sequencing.specs.Problem.{Problem}
use Rattle.sequencing.specs.Orders.{SuccessionsPermitted}
use Rattle.sequencing.specs.States.{complete, K, IsLeft, job, place}
use Rattle.sequencing.specs.Least.{only, plus_gap, arg_least}
use Rattle.sequencing.specs.Recursion.{W, cost_to_go, value, choice, walk}
use Rattle.sequencing.specs.Following.{walk_by}
use Rattle.sequencing.proofs.Vectors.{complete_sum, at_in}
use Rattle.sequencing.proofs.JobsLeft.{complete_left, complete_below}
use Rattle.sequencing.proofs.Fills.{Fills}
use Rattle.sequencing.proofs.Costs.{by_steps}
use Rattle.sequencing.proofs.Options.{some_eq, only_some, plus_gap_some, Upto, upto_only, upto_plus_gap}
use Rattle.sequencing.proofs.Least.{least_upto, smallest}
use Rattle.sequencing.proofs.Equations.{cost_none_left, cost_some_left}

module _ (P : Problem) where
  -- what a value says
  pub value_some : (L : ℕ) (k : List ℕ) (c : ℕ) → value P L k ≡ some c → (at k L < K P L) × Is (P.ok (job P L k) (place P k)) × (cost_to_go P L k ≡ some c)
  unfolding value
  value_some L k c e =
      let s = only_some (ltb (at k L) (K P L)) (only (P.ok (job P L k) (place P k)) (cost_to_go P L k)) c e in
      let t = only_some (P.ok (job P L k) (place P k)) (cost_to_go P L k) c s.1 in
      (ltb→lt (at k L) (K P L) s.0, t.0, t.1)

  pub choice_some : (L : ℕ) (k : List ℕ) (x c : ℕ) → choice P L k x ≡ some c
      → (d : ℕ) × (0 < at k x) × (P.gap L x ≢ Never) × (value P x (complete k x) ≡ some d) × (c ≡ W P k * seconds_of (P.gap L x) + d)
  unfolding choice
  choice_some L k x c e =
      let s = only_some (ltb 0 (at k x)) (plus_gap (W P k) (P.gap L x) (value P x (complete k x))) c e in
      let (d, f, v, q) = plus_gap_some (W P k) (P.gap L x) (value P x (complete k x)) c s.1 in
      (d, ltb→lt 0 (at k x) s.0, f, v, q)

  -- what is found is the cost of the walk, and the walk fills, without a never
  pub walk_is : (n L : ℕ) (k : List ℕ) (c : ℕ) → sum k ≡ n → cost_to_go P L k ≡ some c
      → Fills P k (walk P n L k) × SuccessionsPermitted P L (walk P n L k) × (c ≡ by_steps P (W P) L k (walk P n L k))
  unfolding walk Fills SuccessionsPermitted by_steps
  walk_is zero L k c s e = (s, tt, some_eq c 0 (sym e ∙ cost_none_left P L k s))
  walk_is (suc n) L k c s e =
      let x = arg_least (choice P L k) P.N in
      let m = smallest (choice P L k) P.N c (sym (cost_some_left P L k (omega arith)) ∙ e) in
      let (d, h, f, v, q) = choice_some L k x c m.reached in
      let (b, o, e') = value_some x (complete k x) d v in
      let r = walk_is n x (complete k x) d (omega (arith, complete_sum k x h)) e' in
      ((h, o, r.0), (f, r.1), q ∙ ap (λ d. W P k * seconds_of (P.gap L x) + d) r.2)

  -- where its first kind is the choice from (L; k), a walk by that kind is this walk
  pub walk_by_lem : (n L : ℕ) (k : List ℕ) (x : ℕ) → (0 < n → x ≡ arg_least (choice P L k) P.N) → walk P n L k ≡ walk_by P n x k
  unfolding walk walk_by
  walk_by_lem zero L k x h = refl
  walk_by_lem (suc n) L k x h = rw (h (omega arith))

  pub value_upto : (L : ℕ) (k : List ℕ) (c : ℕ) → at k L < K P L → Is (P.ok (job P L k) (place P k)) → Upto c (cost_to_go P L k) → Upto c (value P L k)
  unfolding value
  value_upto L k c b o p = upto_only c (ltb (at k L) (K P L)) (only (P.ok (job P L k) (place P k)) (cost_to_go P L k)) (lt→ltb (at k L) (K P L) b)
      (upto_only c (P.ok (job P L k) (place P k)) (cost_to_go P L k) o p)

  pub choice_upto : (L : ℕ) (k : List ℕ) (x c : ℕ) → IsLeft P k → 0 < at k x → P.gap L x ≢ Never → Is (P.ok (job P x (complete k x)) (place P (complete k x)))
      → Upto c (cost_to_go P x (complete k x)) → Upto (W P k * seconds_of (P.gap L x) + c) (choice P L k x)
  unfolding choice
  choice_upto L k x c s h f o p = upto_only _ (ltb 0 (at k x)) (plus_gap (W P k) (P.gap L x) (value P x (complete k x))) (lt→ltb 0 (at k x) h)
      (upto_plus_gap c (W P k) (P.gap L x) (value P x (complete k x)) f (value_upto x (complete k x) c (complete_below P k x s h) o p))

  -- no sequence that fills, without a never, costs less
  pub cost_upto_lem : (n L : ℕ) (k xs : List ℕ) → sum k ≡ n → IsLeft P k → Fills P k xs → SuccessionsPermitted P L xs → Upto (by_steps P (W P) L k xs) (cost_to_go P L k)
  unfolding Fills SuccessionsPermitted by_steps
  cost_upto_lem zero L k xs e s f g = rw (cost_none_left P L k e) (omega arith)
  cost_upto_lem (suc n) L k [] e s f g = absurd (omega arith)
  cost_upto_lem (suc n) L k (x ∷ xs) e s f g =
      let q = at_in k x f.0 in
      rw (cost_some_left P L k (omega arith)) (least_upto (choice P L k) P.N x _ q.0 (omega (arith, s.long))
      (choice_upto L k x (by_steps P (W P) x (complete k x) xs) s f.0 g.0 f.1
      (cost_upto_lem n x (complete k x) xs (omega (arith, complete_sum k x f.0)) (complete_left P k x s f.0) f.2 g.1)))
