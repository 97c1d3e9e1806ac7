-- What reading the gap rows leaves in their array, refused or not, and windows as their array holds them.
use Rattle.std.specs.Prelude.{ℕ, zero, suc, List, [], ◌∷◌}
use Rattle.number.specs.Readers.{Reader, ◌>>=◌, give, times}
use Rattle.fields.specs.Orders.{thereafter, read_before}
use Rattle.queue.specs.declared.Window.{Window}
use Rattle.queue.specs.Reading.{held, window}

-- of n rows of k numbers, those before the first refusal: the refused row ends where its refused number stands
unfoldable pub rows_before : ℕ → ℕ → Reader ℕ → List ℕ → ℕ → List (List ℕ)
rows_before zero k one s at = []
rows_before (suc n) k one s at = read_before k one s at ∷ thereafter (times k one s at) (λ _ i. rows_before n k one s i)

-- a window as a record holds it
abbrev pub held_window : Reader Window
held_window = do
  w ← window
  give (held w)
