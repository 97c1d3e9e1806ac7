-- Which refusals a part of a message can give.
-- Assumes nothing.
use mathlib.Core.Path.{◌≡◌}
use mathlib.Core.Logic.{◌⊎◌, inl, inr}
use mathlib.Core.List.{List, [], ◌∷◌, ◌++◌}
use Rattle.refusal.specs.declared.Reason.{Reason}
use Rattle.refusal.specs.declared.Reason.TheVariants.{Ends, Groups}
use Rattle.fields.proofs.Codecs.{All}

-- a refusal that steps with these refusals of their own can give; any number can give 2 and 3
abbrev pub Arises : List Reason → Reason → Type 0
Arises [] r = (r ≡ Ends) ⊎ (r ≡ Groups)
Arises (why ∷ whys) r = (r ≡ why) ⊎ Arises whys r

of_number : (whys : List Reason) (r : Reason) → (r ≡ Ends) ⊎ (r ≡ Groups) → Arises whys r
of_number [] r h = h
of_number (why ∷ whys) r h = inr (of_number whys r h)

pub arises_left : (xs ys : List Reason) (r : Reason) → Arises xs r → Arises (xs ++ ys) r
arises_left [] ys r h = of_number ys r h
arises_left (x ∷ xs) ys r (inl e) = inl e
arises_left (x ∷ xs) ys r (inr h) = inr (arises_left xs ys r h)

pub arises_right : (xs ys : List Reason) (r : Reason) → Arises ys r → Arises (xs ++ ys) r
arises_right [] ys r h = h
arises_right (x ∷ xs) ys r h = inr (arises_right xs ys r h)

-- what holds of 2, 3 and each of a list's refusals
pub arises_in : (P : Reason → Type 0) → P Ends → P Groups → (whys : List Reason) → All P whys → (r : Reason) → Arises whys r → P r
arises_in P e m [] h r (inl p) = rw p e
arises_in P e m [] h r (inr p) = rw p m
arises_in P e m (why ∷ whys) h r (inl p) = rw p h.0
arises_in P e m (why ∷ whys) h r (inr a) = arises_in P e m whys h.1 r a
