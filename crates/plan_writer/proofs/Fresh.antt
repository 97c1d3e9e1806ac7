-- A list is in order where each thing is fresh at its place.
-- Assumes nothing.
use Prim.Native.Nat.{ℕ, ◌<◌}
use mathlib.Core.Path.{◌≡◌, refl, sym, ◌∙◌}
use mathlib.Core.Bool.{Bool, true, false, false≢true}
use mathlib.Core.Logic.{inl, inr}
use mathlib.Core.List.{List, []}
use lib.ListN.{length, get_or, take}
use Rattle.number.proofs.Steps.{bool_cases}
use Rattle.fields.specs.Orders.{all_in_order, followed_by}
use Rattle.fields.proofs.Orders.{in_order_places}

-- r is what `all` answered
pub in_order_is : {A : Type 0} (ok : List A → A → Bool) (xs : List A) (d : A) (r : Bool)
    → (r ≡ true → (i : ℕ) → i < length xs → ok (take i xs) (get_or xs i d) ≡ true)
    → (r ≡ false → (i : ℕ) × (i < length xs) × (ok (take i xs) (get_or xs i d) ≡ false)) → r ≡ all_in_order ok followed_by [] xs
in_order_is ok xs d true each some = sym ((in_order_places ok d xs).1 (each refl))
in_order_is ok xs d false each some = elim (bool_cases (all_in_order ok followed_by [] xs)) [
  | inl e ↦ let (i, h, out) = some refl in absurd (false≢true (sym out ∙ (in_order_places ok d xs).0 e i h))
  | inr e ↦ sym e
]
