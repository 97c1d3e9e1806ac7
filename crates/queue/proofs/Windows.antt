-- When the allowed places of a kind are good.
-- Assumes nothing.
use Prim.Native.Nat.{ℕ, ◌-◌, ◌≤◌}
use mathlib.Core.Path.{◌≡◌, sym, ap, ◌∙◌}
use mathlib.Core.Bool.{true, ◌&&◌}
use mathlib.Core.List.{List}
use native.Mathlib.Omega.{arith}
use lib.Dec.{leb}
use lib.ListN.{length, get_or, take, length-map, get_or-map}
use lib.Seq.{get_or-take}
use borrow.Author.Tests.{le-leb, leb-true}
use Rattle.fields.specs.Lists.{tabulate}
use Rattle.fields.proofs.Judged.{and_true}
use Rattle.fields.proofs.Tables.{tabulate_ext}
use Rattle.fields.proofs.Arrays.{tabulate_list}
use Rattle.queue.specs.declared.Window.{Window}
use Rattle.queue.specs.Record.{window_ok, no_window, pair_of, window_pairs}

module _ (a b : ℕ) where
  pub window_good : 1 ≤ a → a ≤ b → b ≤ 60 → window_ok (a, b) ≡ true
  window_good l m u = rw (le-leb 1 a l, le-leb a b m, le-leb b 60 u)

  pub good_window : window_ok (a, b) ≡ true → (1 ≤ a) × (a ≤ b) × (b ≤ 60)
  good_window e =
      let (p, q) = and_true (leb 1 a && leb a b) (leb b 60) e in
      let (r, t) = and_true (leb 1 a) (leb a b) p in
      (leb-true 1 a r, leb-true a b t, leb-true b 60 q)

-- a_1 b_1 .. a_N b_N are the front of their array
pub pairs_part : (ws : List Window) (n : ℕ) → length (take n ws) ≡ n
    → tabulate (λ j. pair_of (get_or ws (j - 1) no_window)) 1 n ≡ window_pairs (take n ws)
pairs_part ws n many =
    let front = take n ws in
    let long : length (window_pairs front) ≡ n = length-map front pair_of ∙ many in
    tabulate_ext (λ j. pair_of (get_or ws (j - 1) no_window)) (λ j. get_or (window_pairs front) (j - 1) (0, 0)) 1 n
    (λ k l u. sym (get_or-map pair_of front (k - 1) no_window ∙ ap pair_of (get_or-take n ws (k - 1) no_window (omega arith))))
    ∙ ap (λ (m : ℕ). tabulate (λ j. get_or (window_pairs front) (j - 1) (0, 0)) 1 m) (sym long)
    ∙ tabulate_list (window_pairs front) (0, 0) 1
