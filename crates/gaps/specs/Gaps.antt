-- Gaps as a record's array holds them: five places a row, rows 0 to 5; and what each says: seconds, or never.
use Rattle.std.specs.Prelude.{ℕ, ◌+◌, ◌-◌, ◌*◌, Bool, false, cond, ◌||◌, List, [], ◌∷◌, eqb, get_or}
use Rattle.gaps.specs.declared.Gap.{Gap}
use Rattle.gaps.specs.declared.Gap.TheVariants.{Lasting, Never}

-- where row i begins
abbrev pub gap_row : ℕ → ℕ
gap_row i = 5 * i

-- where gap(i, j) stands
abbrev pub gap_index : ℕ → ℕ → ℕ
gap_index i j = gap_row i + (j - 1)

-- the number that stands for 01's gap(i, j), from the finish of a job of kind i (0: the cold cutter) to that of a job of kind j right after it
abbrev pub gap_at : List ℕ → ℕ → ℕ → ℕ
gap_at gaps i j = get_or gaps (gap_index i j) 0

-- what a number says as a gap: 02's never for 65536, else so many seconds
abbrev pub as_gap : ℕ → Gap
as_gap g = cond (eqb g 65536) Never (Lasting (record { 0 = g }))

-- 02's look-up of gap(i, j): seconds, or never
abbrev pub gap_between : List ℕ → ℕ → ℕ → Gap
gap_between gaps i j = as_gap (gap_at gaps i j)

-- the seconds that a gap adds to a finish: never adds none, and no permitted order has one
abbrev pub seconds_of : Gap → ℕ
seconds_of (Lasting s) = s.0
seconds_of Never = 0

-- whether some number of an array is 02's never
unfoldable pub has_never : List ℕ → Bool
has_never [] = false
has_never (g ∷ gaps) = eqb g 65536 || has_never gaps
