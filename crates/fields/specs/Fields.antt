-- 01: "each number is first read (2, 3), then judged, before the next".
use Rattle.std.specs.Prelude.{ℕ, Bool, true, cond, ◌&&◌, leb, take, drop}
use mathlib.Core.List.{List, [], ◌∷◌, flat_map}
use Rattle.refusal.specs.declared.Reason.{Reason}
use Rattle.number.specs.Readers.{found, refused, Reader, and_then}
use Rattle.number.specs.Numbers.{number, encode}

-- a number of at most g groups that passes the test; any other gets the refusal
abbrev pub field : ℕ → (ℕ → Bool) → Reason → Reader ℕ
field g ok why s at = and_then (number g s at) (λ v n. cond (ok v) (found v n) (refused why))

-- from low to high
abbrev pub within : ℕ → ℕ → ℕ → Bool
within low high v = leb low v && leb v high

-- everything in a list passes the test
unfoldable pub all : {A : Type 0} → (A → Bool) → List A → Bool
all ok [] = true
all ok (v ∷ vs) = ok v && all ok vs

-- n values from position i on
abbrev pub part : ℕ → ℕ → List ℕ → List ℕ
part i n values = take n (drop i values)

-- numbers written one after the other
abbrev pub encode_all : List ℕ → List ℕ
encode_all vs = flat_map encode vs
