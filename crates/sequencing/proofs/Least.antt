-- The least is reached, is a lower bound, and the kind taken is the smallest that reaches it.
-- Assumes nothing.
use mathlib.Core.Bool.{true, cond, not, false≢true}
use mathlib.Core.Logic.{inl, inr, ◌≢◌}
use mathlib.Core.Option.{Option, none, some}
use mathlib.Core.Path.{◌≡◌, refl, sym, ap, ap₂, ◌∙◌}
use mathlib.Mathlib.Data.Bool.Basic.{dichotomy}
use Prim.Native.Nat.{ℕ, zero, suc, ◌≤◌, ◌<◌}
use native.Mathlib.Omega.{arith}
use lib.Dec.{T as Is, leb, leb→le, nleb→lt}
use Rattle.sequencing.specs.Least.{lower, reaches, least, arg_least}
use Rattle.sequencing.specs.Ties.{Smallest}
use Rattle.sequencing.proofs.Counting.{one_cases}
use Rattle.sequencing.proofs.Options.{none_some, Upto, upto_left, upto_right}

-- the lower is the one that `reaches` says
lower_is : (a b : Option ℕ) → lower a b ≡ cond (reaches a b) a b
lower_is none b = refl
lower_is (some a) none = refl
lower_is (some a) (some b) = elim (dichotomy (reaches (some a) (some b))) [
  | inr e ↦ rw e (let h : Is (reaches (some a) (some b)) = rw e tt in ap some (omega (arith, leb→le)))
  | inl e ↦ rw e (let h : Is (not (reaches (some a) (some b))) = rw e tt in ap some (omega (arith, nleb→lt)))
]

reaches_true : (c : ℕ) (a b : Option ℕ) → Upto c a → b ≡ some c → reaches a b ≡ true
reaches_true c none b p e = absurd p
reaches_true c (some a) b p e = rw e (elim (dichotomy (leb a c)) [ inr q ↦ q | inl q ↦ absurd (omega (arith, nleb→lt a c (rw q tt))) ])

module _ (f : ℕ → Option ℕ) where
  -- nothing that is found is less than the least
  pub least_upto : (n x c : ℕ) → 1 ≤ x → x ≤ n → Upto c (f x) → Upto c (least f n)
  unfolding least
  least_upto zero x c l u p = absurd (omega arith)
  least_upto (suc n) x c l u p = elim (one_cases x (suc n)) [
    | inl e ↦ upto_right c (least f n) (f (suc n)) (rw e.0 at p)
    | inr e ↦ upto_left c (least f n) (f (suc n)) (least_upto n x c l (omega arith) p)
  ]

  reached : (n c : ℕ) → least f n ≡ some c → (1 ≤ arg_least f n) × (arg_least f n ≤ n) × (f (arg_least f n) ≡ some c)
  unfolding least arg_least
  reached zero c e = absurd (none_some c e)
  reached (suc n) c e =
      let e' = sym (lower_is (least f n) (f (suc n))) ∙ e in
      elim (dichotomy (reaches (least f n) (f (suc n)))) [
        | inr q ↦ rw q (let r = reached n c (rw q at e') in (r.0, omega arith, r.2))
        | inl q ↦ rw q (omega arith, omega arith, rw q at e')
      ]

  first : (n c : ℕ) → least f n ≡ some c → (y : ℕ) → 1 ≤ y → y < arg_least f n → f y ≢ some c
  unfolding least arg_least
  first zero c e y l u g = omega arith
  first (suc n) c e y l u g =
      let e' = sym (lower_is (least f n) (f (suc n))) ∙ e in
      elim (dichotomy (reaches (least f n) (f (suc n)))) [
        | inr q ↦ first n c (rw q at e') y l (rw q at u) g
        | inl q ↦ false≢true (sym q ∙ reaches_true c (least f n) (f (suc n)) (least_upto n y c l (omega (arith, rw q at u)) (rw g (omega arith))) (rw q at e'))
      ]

  -- the least is attained and is a lower bound, and no smaller kind than the one taken reaches it
  pub smallest : (n c : ℕ) → least f n ≡ some c → Smallest f n (arg_least f n) c
  smallest n c e =
      let r = reached n c e in
      record {
        low = r.0;
        high = r.1;
        reached = r.2;
        bound = λ y d l u g. rw e at (least_upto n y d l u (rw g (omega arith)));
        first = first n c e;
      }

-- what agrees from 1 to n has the same least
pub least_ext : (f g : ℕ → Option ℕ) (n : ℕ) → ((x : ℕ) → 1 ≤ x → x ≤ n → f x ≡ g x) → least f n ≡ least g n
unfolding least
least_ext f g zero h = refl
least_ext f g (suc n) h = ap₂ lower (least_ext f g n (λ x l u. h x l (omega arith))) (h (suc n) (omega arith) (omega arith))

-- and the same kind that reaches it
pub arg_ext : (f g : ℕ → Option ℕ) (n : ℕ) → ((x : ℕ) → 1 ≤ x → x ≤ n → f x ≡ g x) → arg_least f n ≡ arg_least g n
unfolding arg_least
arg_ext f g zero h = refl
arg_ext f g (suc n) h =
    rw (least_ext f g n (λ x l u. h x l (omega arith)), h (suc n) (omega arith) (omega arith), arg_ext f g n (λ x l u. h x l (omega arith)))
