-- A queue's tables, up to its number of kinds, as parts of its arrays; and what comes next of them.
-- Assumes nothing.
use Prim.Native.Nat.{ℕ, ◌+◌, ◌-◌, ◌<◌, ◌≤◌}
use mathlib.Core.Path.{◌≡◌, refl, sym, ap, ◌∙◌}
use mathlib.Core.List.{List, [], ◌∷◌}
use native.Mathlib.Omega.{arith}
use native.Mathlib.Nat.{zero-add}
use lib.ListN.{length, get_or, take, drop, drop_of_length-le, length-take, length-drop}
use Rattle.gaps.specs.Gaps.{gap_row}
use Rattle.fields.specs.Lists.{tabulate}
use Rattle.fields.proofs.Tables.{length_tabulate, tabulate_at, tabulate_part, list_part}
use Rattle.fields_writer.proofs.Writing.{next_item}
use Rattle.queue.specs.declared.Queue.{Queue}
use Rattle.queue.specs.declared.Window.{Window}
use Rattle.queue.specs.Record.{no_window, pair_of, gap, rows, weight_list, windows, window_pairs}
use Rattle.queue.proofs.Windows.{pairs_part}

module _ (q : Queue) (n : ℕ) (is : n ≡ q.kinds) where
  -- gap row i, which begins at `from`
  pub row_part : (i from : ℕ) → from ≡ gap_row i → i ≤ n → length (take (from + n - from) (drop from q.gaps)) ≡ n
      → take (from + n - from) (drop from q.gaps) ≡ tabulate (gap q i) 1 n
  row_part i from begins row many =
      let size : from + n - from ≡ n = omega arith in
      let long : length (take n (drop from q.gaps)) ≡ n = rw size at many in
      let room : gap_row i + n ≤ length q.gaps = omega (arith, length-take n (drop from q.gaps), length-drop from q.gaps) in
      rw (size, begins) (sym (tabulate_part q.gaps (gap_row i) n room))

  pub weights_part : length (take n q.weights) ≡ n → take n q.weights ≡ weight_list q
  weights_part many = rw (← is) (sym (list_part q.weights n (omega (arith, length-take n q.weights))))

  pub windows_part : length (take n q.windows) ≡ n → window_pairs (take n q.windows) ≡ windows q
  windows_part many = rw (← is) (sym (pairs_part q.windows n many))

-- the next gap row
module _ (q : Queue) (i : ℕ) where
  abbrev row : ℕ → List ℕ
  row i = tabulate (gap q i) 1 q.kinds

  pub next_row : i ≤ q.kinds → drop i (rows q) ≡ tabulate (gap q i) 1 q.kinds ∷ drop (i + 1) (rows q)
  next_row h =
      next_item (rows q) i [] (row i) (omega (arith, length_tabulate row 0 (q.kinds + 1)))
      (tabulate_at row [] 0 (q.kinds + 1) i (omega arith) ∙ ap row (zero-add i))

  pub no_rows : q.kinds < i → drop i (rows q) ≡ []
  no_rows h = drop_of_length-le (rows q) (omega (arith, length_tabulate row 0 (q.kinds + 1)))

-- a_j b_j of the next window
module _ (ws : List Window) (i : ℕ) where
  pub next_window : i < length ws → window_pairs (drop i ws) ≡ pair_of (get_or ws i no_window) ∷ window_pairs (drop (i + 1) ws)
  next_window h = ap window_pairs (next_item ws i no_window (get_or ws i no_window) h refl)

  pub no_windows : length ws ≤ i → window_pairs (drop i ws) ≡ []
  no_windows h = ap window_pairs (drop_of_length-le ws h)
