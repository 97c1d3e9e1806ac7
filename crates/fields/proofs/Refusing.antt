-- Which refusals a chain of steps can give: those of its steps, and no others.
-- Assumes nothing.
use Prim.Native.Nat.{ℕ, zero, suc, ◌+◌, ◌-◌}
use mathlib.Core.Path.{◌≡◌, refl, subst}
use mathlib.Core.Bool.{Bool, true, false, cond}
use mathlib.Core.List.{List, [], ◌∷◌}
use lib.Dec.{ltb, eqb}
use lib.ListN.{drop}
use Rattle.refusal.specs.declared.Reason.{Reason}
use Rattle.refusal.specs.declared.Reason.TheVariants.{Ends, Groups}
use Rattle.number.specs.Readers.{Found, found, refused, and_then}
use Rattle.number.specs.Numbers.{above, last, groups_at, number}
use Rattle.number.proofs.Steps.{not_refused}

-- a step that refuses gives one of the refusals P
abbrev pub Gives : (Reason → Type 0) → {A : Type 0} → Found A → Type 0
Gives P f = (r : Reason) → f ≡ refused r → P r

module _ (P : Reason → Type 0) where
  pub gives_why : {A : Type 0} (why : Reason) → P why → Gives P {A = A} (refused why)
  gives_why why h r e = let same : why ≡ r = cc in subst P same h

  pub gives_found : {A : Type 0} (a : A) (n : ℕ) → Gives P (found a n)
  gives_found a n r e = not_refused r a n e

  pub gives_judged : {A : Type 0} (ok : Bool) (a : A) (n : ℕ) (why : Reason) → P why → Gives P (cond ok (found a n) (refused why))
  gives_judged true a n why h = gives_found a n
  gives_judged false a n why h = gives_why why h

  pub gives_then : {A B : Type 0} (f : Found A) (next : A → ℕ → Found B) → Gives P f → ((a : A) (n : ℕ) → Gives P (next a n)) → Gives P (and_then f next)
  gives_then (found a n) next h k = k a n
  gives_then (refused q) next h k = gives_why q (h q refl)

  module _ (ends : P Ends) (malformed : P Groups) where
    gives_last : (first : Bool) (b n : ℕ) → Gives P (last first b n)
    gives_last true b n = gives_found b n
    gives_last false b n = go (eqb b 0)
      where
        go : (t : Bool) → Gives P (cond t (refused Groups) (found b n))
        go true = gives_why Groups malformed
        go false = gives_found b n

    gives_above : (low : ℕ) (f : Found ℕ) → Gives P f → Gives P (above low f)
    gives_above low (found v n) h = gives_found _ n
    gives_above low (refused q) h = gives_why q (h q refl)

    gives_groups : (first : Bool) (g p : ℕ) (s : List ℕ) → Gives P (groups_at first g p s)
    unfolding groups_at
    gives_groups first zero p s = gives_why Groups malformed
    gives_groups first (suc g) p [] = gives_why Ends ends
    gives_groups first (suc g) p (b ∷ s) = go (ltb b 128) (gives_groups false g (p + 1) s)
      where
        go : (t : Bool) → Gives P (groups_at false g (p + 1) s) → Gives P (cond t (last first b (p + 1)) (above (b - 128) (groups_at false g (p + 1) s)))
        go true h = gives_last first b (p + 1)
        go false h = gives_above (b - 128) (groups_at false g (p + 1) s) h

    pub gives_number : (g : ℕ) (s : List ℕ) (at : ℕ) → Gives P (number g s at)
    gives_number g s at = gives_groups true g at (drop at s)
