-- The least over the kinds passed, as the loop over them holds it.
-- Assumes nothing.
use Prim.Native.Nat.{ℕ, suc, ◌+◌, ◌-◌, ◌^◌, ◌<◌, ◌≤◌, min}
use mathlib.Core.Bool.{not, cond}
use mathlib.Core.Option.{Option, none, some}
use mathlib.Core.Path.{◌≡◌, refl, sym, ap, ◌∙◌}
use native.Mathlib.Numerals.{add-one}
use native.Mathlib.Omega.{arith}
use lib.Dec.{ltb, eqb}
use borrow.Author.Tests.{eq-eqb, ne_eqb}
use Rattle.std.specs.Bool.{then_some}
use Rattle.units.specs.Costs.{number_of}
use Rattle.sequencing.specs.Least.{least, arg_least}
use Rattle.sequencing.proofs.Options.{none_some}
use Rattle.sequencing.specs.Entries.{stored}
use Rattle.jobs_left.specs.declared.StepWeight.{StepWeight}
use Rattle.next_states.specs.declared.Least.{Least}
use Rattle.next_states.specs.NextStates.{cost_by, least_answer}
use Rattle.next_states.proofs.Units.{number_by}
use Rattle.next_states.proofs.Stored.{Fits, fits_stored, fits_least, stored_lower, stored_taken, least_past, arg_past}

-- the least of the first x kinds
pub record Lowest (w : StepWeight) (f : ℕ → Option ℕ) (best : Least) (x : ℕ) : Type 0 where
  pub few : x ≤ 5
  pub cost_is : best.cost ≡ cost_by w (stored (least f x))
  pub kind_is : (c : ℕ) → least f x ≡ some c → best.kind ≡ arg_least f x

module _ {w : StepWeight} {f : ℕ → Option ℕ} {best : Least} where
  pub lowest_none : best.cost ≡ cost_by w (2 ^ 64 - 1) → Lowest w f best 0
  unfolding least
  lowest_none e = record { few = omega arith; cost_is = e; kind_is = λ c s. absurd (none_some c s) }

  module _ {x : ℕ} (l : Lowest w f best x) where
    so_far : number_of best.cost ≡ stored (least f x)
    so_far = ap number_of l.cost_is ∙ number_by w (stored (least f x))

    -- it is in the unit of W, and 64 bits hold it
    pub lowest_held : (small : (y : ℕ) → 1 ≤ y → y ≤ 5 → Fits (f y))
        → (best.cost ≡ cost_by w (number_of best.cost)) × (number_of best.cost < 2 ^ 64)
    lowest_held small = (
      l.cost_is ∙ ap (cost_by w) (sym so_far),
      rw so_far (fits_stored (least f x) (fits_least f x (λ y low u. small y low (omega (arith, l.few))))),
    )

    -- the better of the least so far and kind x + 1, the earlier where they are equal
    pub lowest_more : {r : Least} (small : (y : ℕ) → 1 ≤ y → y ≤ 5 → Fits (f y)) → x < 5
        → r.cost ≡ cost_by w (min (number_of best.cost) (stored (f (x + 1))))
        → r.kind ≡ cond (ltb (stored (f (x + 1))) (number_of best.cost)) (x + 1) best.kind → Lowest w f r (x + 1)
    unfolding least arg_least
    lowest_more small h cost kind =
        let a = fits_least f x (λ y l u. small y l (omega arith)) in
        let b = small (suc x) (omega arith) (omega arith) in
        record {
          few = omega arith;
          cost_is = cost ∙ rw (so_far, add-one) (ap (cost_by w) (sym (stored_lower (least f x) (f (suc x)) a b)));
          kind_is = λ c e.
              kind ∙ rw (so_far, add-one) (stored_taken (least f x) (f (suc x)) best.kind (arg_least f x) (suc x) a b l.kind_is c (rw add-one at e));
        }

    -- where nothing is found for the kinds past x, that is the least over all
    pub lowest_past : ((y : ℕ) → x < y → y ≤ 5 → f y ≡ none) → Lowest w f best 5
    lowest_past past =
        let e : x + (5 - x) ≡ 5 = omega (arith, l.few) in
        let h : (y : ℕ) → x < y → y ≤ x + (5 - x) → f y ≡ none = λ y low u. past y low (omega (arith, l.few)) in
        let same : least f 5 ≡ least f x = rw e at (least_past f x (5 - x) h) in
        record {
          few = omega arith;
          cost_is = l.cost_is ∙ ap (λ (v : Option ℕ). cost_by w (stored v)) (sym same);
          kind_is = λ c s. l.kind_is c (sym same ∙ s) ∙ sym (rw e at (arg_past f x (5 - x) h c (sym same ∙ s)));
        }

  -- the least over all as it is answered: there is none where its number is 2^64 − 1
  pub lowest_answer : Lowest w f best 5 → ((y : ℕ) → 1 ≤ y → y ≤ 5 → Fits (f y)) → {n : ℕ} → n ≡ number_of best.cost
      → then_some (not (eqb n (2 ^ 64 - 1))) best ≡ least_answer (cost_by w) (arg_least f 5) (least f 5)
  lowest_answer l small {n} n-is = go (least f 5) refl
    where
      go : (m : Option ℕ) → least f 5 ≡ m → then_some (not (eqb n (2 ^ 64 - 1))) best ≡ least_answer (cost_by w) (arg_least f 5) m
      go none e = rw (eq-eqb n (2 ^ 64 - 1) (n-is ∙ so_far l ∙ ap stored e))
      go (some c) e =
          let is : n ≡ c = n-is ∙ so_far l ∙ ap stored e in
          let all : Fits (least f 5) = fits_least f 5 small in
          let below : c < 2 ^ 64 - 1 = rw e at all in
          let cost : best.cost ≡ cost_by w c = l.cost_is ∙ ap (λ (v : Option ℕ). cost_by w (stored v)) e in
          rw (ne_eqb n (2 ^ 64 - 1) (λ z. omega arith), sym (l.kind_is c e), sym cost)
