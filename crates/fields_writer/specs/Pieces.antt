-- Pieces that several messages have, as the writers' functions are cut.
use Rattle.std.specs.Prelude.{ℕ, List, [], ◌∷◌, ◌++◌, ◌-◌, get_or, length}
use Rattle.number.specs.Numbers.{encode}
use Rattle.fields.specs.Fields.{encode_all}
use Rattle.fields.specs.Lists.{tabulate}

-- a message's first two bytes
abbrev pub opening_bytes : (opening : List ℕ) → List ℕ
opening_bytes opening = get_or opening 0 0 ∷ get_or opening 1 0 ∷ []

-- how a plan of one cutter or of two begins: the opening, edition 1, goal, cost
unfoldable pub front_bytes : (opening : List ℕ) (goal cost : ℕ) → List ℕ
front_bytes opening goal cost = opening_bytes opening ++ encode 1 ++ encode goal ++ encode cost

-- what a record lists in an array: the first n of its values
abbrev pub listed : (values : List ℕ) (n : ℕ) → List ℕ
listed values n = tabulate (λ j. get_or values (j - 1) 0) 1 n

-- how many values there are, and the values
unfoldable pub counted_bytes : (values : List ℕ) → List ℕ
counted_bytes values = encode (length values) ++ encode_all values
