-- The array that holds the windows gives them back, and holds zeros past them.
-- Assumes nothing.
use Prim.Native.Nat.{ℕ, zero, suc, ◌+◌, ◌-◌, ◌<◌, ◌≤◌}
use mathlib.Core.Path.{◌≡◌, refl, sym, ap, ◌∙◌}
use mathlib.Core.List.{List, [], ◌∷◌, map}
use native.Mathlib.Omega.{arith}
use lib.ListN.{length, get_or, set, replicate, length-map, get_or-map, get_or-append}
use lib.Seq.{sets, sets-eq, get_or-set_other}
use Rattle.fields.specs.Lists.{tabulate}
use Rattle.fields.proofs.Tables.{tabulate_ext}
use Rattle.fields.proofs.Arrays.{tabulate_list}
use Rattle.queue.specs.declared.Window.{Window}
use Rattle.queue.specs.Record.{no_window}
use Rattle.queue.specs.Reading.{held}

past_stored : (xs l : List Window) (i k : ℕ) → i + length xs ≤ k → get_or (sets l i xs) k no_window ≡ get_or l k no_window
past_stored [] l i k h = refl
past_stored (x ∷ xs) l i k h = past_stored xs (set l i x) (suc i) k (omega arith) ∙ get_or-set_other l i k x no_window (λ e. omega arith)

zeros_hold_none : (m k : ℕ) → get_or (replicate m no_window) k no_window ≡ no_window
zeros_hold_none zero k = refl
zeros_hold_none (suc m) zero = refl
zeros_hold_none (suc m) (suc k) = zeros_hold_none m k

module _ (ws : List (ℕ × ℕ)) where
  -- the windows in their array
  abbrev stored : List Window
  stored = sets (replicate 5 no_window) 0 (map held ws)

  pub none_past : (k : ℕ) → length ws ≤ k → get_or stored k no_window ≡ no_window
  none_past k h = past_stored (map held ws) (replicate 5 no_window) 0 k (omega (arith, length-map ws held)) ∙ zeros_hold_none 5 k

  stored_at : (k : ℕ) → k < length ws → length ws ≤ 5 → get_or stored k no_window ≡ held (get_or ws k (0, 0))
  stored_at k h five =
      let long = length-map ws held in
      ap (λ (l : List Window). get_or l k no_window) (sets-eq (map held ws) (replicate 5 no_window) 0 (omega (arith, long)))
      ∙ get_or-append (map held ws) _ no_window k (omega (arith, long))
      ∙ get_or-map held ws k (0, 0)

  pub windows_back : (n : ℕ) → n ≤ 5 → length ws ≡ n → tabulate (λ j. ((get_or stored (j - 1) no_window).first, (get_or stored (j - 1) no_window).last)) 1 n ≡ ws
  windows_back n few long =
      let pair : Window → ℕ × ℕ = λ w. (w.first, w.last) in
      tabulate_ext (λ j. pair (get_or stored (j - 1) no_window)) (λ j. get_or ws (j - 1) (0, 0)) 1 n (λ k l u. ap pair (stored_at (k - 1) (omega arith) (omega arith)))
      ∙ ap (λ (m : ℕ). tabulate (λ j. get_or ws (j - 1) (0, 0)) 1 m) (sym long)
      ∙ tabulate_list ws (0, 0) 1
