-- Sets of places, bit p for place p.
use Rattle.std.specs.Prelude.{ℕ, suc, ◌-◌, ◌^◌, Bool, cond, List, leb, ltb, get_or}
use Rattle.std.specs.Int.Bits.{bit_and}
use Rattle.queue.specs.declared.Window.{Window}
use Rattle.layout.specs.Prepared.{no_place}

-- the places from a to b; none where b is below a, or past 01's last place, 60
abbrev pub places_from : ℕ → ℕ → ℕ
places_from a b = cond (leb b 60) (2 ^ suc b - 2 ^ a) 0

-- whether a place, told by its bit, is in a set
abbrev pub is_in : (here places : ℕ) → Bool
is_in here places = ltb 0 (bit_and places here)

-- slot i of an array of sets: in the first n slots the places permitted, else as it was
abbrev pub set_at : (places : List Window) (n : ℕ) (sets : List ℕ) → ℕ → ℕ
set_at places n sets i = cond (ltb i n) (places_from (get_or places i no_place).first (get_or places i no_place).last) (get_or sets i 0)
