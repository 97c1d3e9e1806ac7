-- 02's sum worked out: 01's case A, whose states are all kept; chapter 5, where shift 14 keeps all; no jobs; a kind without jobs; the largest table.
use Rattle.std.specs.Prelude.{[], ◌∷◌, ◌≡◌}
use Rattle.state_count.specs.StateCount.{most_feasible}

abbrev pub Examples : Type 0
Examples =
    (most_feasible (2 ∷ 1 ∷ []) ≡ 7)
    × (most_feasible (5 ∷ 6 ∷ 4 ∷ []) ≡ 523)
    × (most_feasible (0 ∷ 0 ∷ []) ≡ 0)
    × (most_feasible (3 ∷ 0 ∷ 1 ∷ []) ≡ 10)
    × (most_feasible (12 ∷ 12 ∷ 12 ∷ 12 ∷ 12 ∷ []) ≡ 1713660)
