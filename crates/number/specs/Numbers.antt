-- 01's numbers: groups of seven bits, lowest group first, one byte each; bit 7 is set in all but the last byte (LEB128, canonical).
use Rattle.std.specs.Prelude.{ℕ, zero, suc, ◌+◌, ◌-◌, ◌*◌, ◌/◌, ◌%◌, List, [], ◌∷◌, Bool, true, false, cond, drop, ltb, eqb}
use Rattle.refusal.specs.declared.Reason.TheVariants.{Ends, Groups}
use Rattle.number.specs.Readers.{Found, found, refused, Reader}

-- a group's seven bits below the rest of the number
abbrev pub above : ℕ → Found ℕ → Found ℕ
above low (found v n) = found (low + 128 * v) n
above low (refused r) = refused r

-- the last group, b, which ends at position n: a byte 00 may not end a number of several groups
abbrev pub last : Bool → ℕ → ℕ → Found ℕ
last true b n = found b n
last false b n = cond (eqb b 0) (refused Groups) (found b n)

-- at most g more groups, whose bytes from position p on are s. `first`: no group came before
unfoldable pub groups_at : Bool → ℕ → ℕ → List ℕ → Found ℕ
groups_at first zero p s = refused Groups
groups_at first (suc g) p [] = refused Ends
groups_at first (suc g) p (b ∷ s) =
    cond (ltb b 128) (last first b (p + 1)) (above (b - 128) (groups_at false g (p + 1) s))

-- the number of at most g groups that starts at a position: refusals 2 and 3
abbrev pub number : ℕ → Reader ℕ
number g s at = groups_at true g at (drop at s)

-- the groups of v, in at most `most` bytes
unfoldable pub groups : ℕ → ℕ → List ℕ
groups zero v = []
groups (suc most) v = let more : List ℕ = groups most (v / 128) in cond (ltb v 128) (v ∷ []) ((v % 128 + 128) ∷ more)

-- a number as it is written (v + 1 bytes are enough for any v)
unfoldable pub encode : ℕ → List ℕ
encode v = groups (suc v) v
