-- Laws of costs in their goal's own unit.
-- Assumes nothing.
use Prim.Native.Nat.{ℕ, ◌+◌, max}
use mathlib.Core.Bool.{Bool, true, false, cond}
use mathlib.Core.Path.{◌≡◌, refl, sym, ap, ap₂, ◌∙◌}
use lib.Dec.{eqb}
use borrow.Author.Tests.{ne_eqb}
use Rattle.units.specs.declared.Seconds.{Seconds}
use Rattle.units.specs.declared.PupilSeconds.{PupilSeconds}
use Rattle.units.specs.declared.Cost.{Cost}
use Rattle.units.specs.declared.Cost.TheVariants.{InSeconds, InPupilSeconds}
use Rattle.units.specs.Costs.{cost_in, number_of, in_seconds, together}

-- under each goal
pub as_seconds : {goal n : ℕ} {s : Seconds} → goal ≡ 1 → s.0 ≡ n → InSeconds s ≡ cost_in goal n
unfolding cost_in
as_seconds one e = rw one (ap (λ (k : ℕ). InSeconds (record { 0 = k })) e)

pub as_pupil_seconds : {goal n : ℕ} {p : PupilSeconds} → (goal ≡ 1 → ⊥) → p.0 ≡ n → InPupilSeconds p ≡ cost_in goal n
unfolding cost_in
as_pupil_seconds {goal} other e = rw (ne_eqb goal 1 other) (ap (λ (k : ℕ). InPupilSeconds (record { 0 = k })) e)

-- which number and which unit it is
told : (goal n : ℕ) → (number_of (cost_in goal n) ≡ n) × (in_seconds (cost_in goal n) ≡ eqb goal 1)
unfolding cost_in
told goal n = go (eqb goal 1) where
  go : (b : Bool) → let x = cond b (InSeconds (record { 0 = n })) (InPupilSeconds (record { 0 = n })) in (number_of x ≡ n) × (in_seconds x ≡ b)
  go true = (refl, refl)
  go false = (refl, refl)

module _ (goal m : ℕ) {x : Cost} (x-is : x ≡ cost_in goal m) where
  pub number_is : number_of x ≡ m
  number_is = ap number_of x-is ∙ (told goal m).0

  -- two costs under one goal are in one unit
  pub one_unit : (n : ℕ) {y : Cost} → y ≡ cost_in goal n → in_seconds x ≡ in_seconds y
  one_unit n y-is = ap in_seconds x-is ∙ (told goal m).1 ∙ sym (ap in_seconds y-is ∙ (told goal n).1)

  -- both together under that goal
  pub together_is : (n : ℕ) {y : Cost} → y ≡ cost_in goal n → together x y ≡ cost_in goal (cond (eqb goal 1) (max m n) (m + n))
  unfolding cost_in
  together_is n y-is = ap₂ together x-is y-is ∙ go (eqb goal 1)
    where
      go : (b : Bool) → let of : ℕ → Cost = λ k. cond b (InSeconds (record { 0 = k })) (InPupilSeconds (record { 0 = k })) in
          together (of m) (of n) ≡ of (cond b (max m n) (m + n))
      go true = refl
      go false = refl
