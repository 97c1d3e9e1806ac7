-- Tests that are joined: both hold exactly when each does. And tests that hold together are the same.
-- Assumes nothing.
use mathlib.Core.Bool.{Bool, true, false, ◌&&◌}
use mathlib.Core.Path.{◌≡◌, refl}
use lib.Dec.{T as Is}

pub and_l : (a b : Bool) → Is (a && b) → Is a
and_l true b t = tt
and_l false b t = t

pub and_r : (a b : Bool) → Is (a && b) → Is b
and_r true b t = t
and_r false b t = absurd t

pub and : (a b : Bool) → Is a → Is b → Is (a && b)
and true b s t = t
and false b s t = absurd s

pub same_test : (a b : Bool) → (Is a → Is b) → (Is b → Is a) → a ≡ b
same_test true true f g = refl
same_test true false f g = absurd (f tt)
same_test false true f g = absurd (g tt)
same_test false false f g = refl
