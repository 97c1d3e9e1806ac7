-- When verdicts accept and refuse: of one check, of one part before another, of a list.
-- Assumes nothing.
use Rattle.refusal.specs.Answers.{Verdict, Accepted}
use Rattle.std.specs.Prelude.{Ok, Err}
use Prim.Native.Nat.{ℕ}
use mathlib.Core.Path.{◌≡◌, refl, sym}
use mathlib.Core.Bool.{Bool, true, false}
use mathlib.Core.Logic.{◌↔◌, inl, inr}
use mathlib.Core.List.{List, [], ◌∷◌}
use native.Mathlib.Omega.{arith}
use Rattle.refusal.specs.declared.Reason.{Reason}
use Rattle.number.proofs.Steps.{bool_cases}
use Rattle.fields.specs.Messages.{check, ◌before◌}
use Rattle.fields.specs.Orders.{all_in_order, in_turn}

pub not_accepted : {A : Type 0} (r : Reason) → Err r ≡ Accepted → A
not_accepted r e = let z : ◌≡◌ {A = ℕ} 0 1 = cc in absurd (omega arith)

pub judged_accepts : (ok : Bool) (why : Reason) → (check ok why ≡ Accepted) ↔ (ok ≡ true)
judged_accepts true why = (λ e. refl, λ e. refl)
judged_accepts false why = (λ e. not_accepted why e, λ e. let z : ◌≡◌ {A = ℕ} 0 1 = cc in absurd (omega arith))

pub judged_refuses : (ok : Bool) (why r : Reason) → check ok why ≡ Err r → (ok ≡ false) × (why ≡ r)
judged_refuses true why r e = not_accepted r (sym e)
judged_refuses false why r e = (refl, cc)

pub before_accepts : (v w : Verdict) → (v before w ≡ Accepted) ↔ ((v ≡ Accepted) × (w ≡ Accepted))
before_accepts (Ok tt) w = (λ e. (refl, e), λ p. p.1)
before_accepts (Err r) w = (λ e. not_accepted r e, λ p. p.0)

pub before_assoc : (u v w : Verdict) → (u before v) before w ≡ u before (v before w)
before_assoc (Ok tt) v w = refl
before_assoc (Err r) v w = refl

-- a list in which each thing is tested after what the earlier ones left, with one refusal for all
pub in_turn_tested : {S A : Type 0} (judge : S → A → Verdict) (ok : S → A → Bool) (why : Reason) (step : S → A → S) → ((state : S) (a : A) → judge state a ≡ check (ok state a) why)
    → (state : S) (xs : List A) → in_turn judge step state xs ≡ check (all_in_order ok step state xs) why
unfolding in_turn all_in_order
in_turn_tested judge ok why step is state [] = refl
in_turn_tested judge ok why step is state (a ∷ more) = elim (bool_cases (ok state a)) [
  | inl e ↦ rw (is state a, e) (in_turn_tested judge ok why step is (step state a) more)
  | inr e ↦ rw (is state a, e)
]
