-- Lists of numbers. As in 01, kinds, jobs and places are numbered from 1.
use Rattle.std.specs.Prelude.{Bool, cond, List, [], ◌∷◌, ℕ, zero, suc, ◌+◌, ◌*◌, eqb, get_or}

-- the element at i, from 1 on, and 0 where there is none
abbrev pub at : List ℕ → ℕ → ℕ
at xs zero = 0
at xs (suc i) = get_or xs i 0

-- n numbers: i, i + 1, ..
unfoldable pub from : ℕ → ℕ → List ℕ
from i zero = []
from i (suc n) = i ∷ from (suc i) n

-- 1 to n
abbrev pub upto : ℕ → List ℕ
upto n = from 1 n

-- those that pass a test, in their order
unfoldable pub filter : (ℕ → Bool) → List ℕ → List ℕ
filter p [] = []
filter p (x ∷ xs) = cond (p x) (x ∷ filter p xs) (filter p xs)

-- 1 where z is x, else 0
abbrev pub one : ℕ → ℕ → ℕ
one z x = cond (eqb z x) 1 0

-- how often z stands in a list
unfoldable pub count : ℕ → List ℕ → ℕ
count z [] = 0
count z (x ∷ xs) = one z x + count z xs

-- c_1 + c_2 + .., as in 01's place of a state
unfoldable pub sum : List ℕ → ℕ
sum [] = 0
sum (c ∷ cs) = c + sum cs

-- c_1 × f 1 + c_2 × f 2 + .., as in 01's W
unfoldable pub weigh : (ℕ → ℕ) → List ℕ → ℕ
weigh f [] = 0
weigh f (c ∷ cs) = c * f 1 + weigh (λ j. f (suc j)) cs
