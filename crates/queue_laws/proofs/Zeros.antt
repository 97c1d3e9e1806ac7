-- A cleared record holds 0 past N and T.
-- Assumes nothing.
use Prim.Native.Nat.{ℕ, suc, ◌+◌, ◌/◌, ◌%◌, ◌≤◌, ◌<◌}
use mathlib.Core.Path.{◌≡◌, refl, ◌∙◌}
use mathlib.Core.Logic.{◌⊎◌, inl, inr}
use mathlib.Core.List.{List, [], ◌∷◌}
use native.Mathlib.Omega.{arith}
use lib.ListN.{length, get_or, replicate}
use lib.Seq.{sets}
use Rattle.number.proofs.Steps.{below_or_not}
use Rattle.fields.specs.Lists.{tabulate}
use Rattle.fields.proofs.Codecs.{All}
use Rattle.fields.proofs.Tables.{length_tabulate, all_tabulate}
use Rattle.fields.proofs.Arrays.{get_d_sets_past, get_d_sets_before, get_d_zeros, filled_past}
use Rattle.gaps.specs.Gaps.{gap_row}
use Rattle.queue.specs.declared.Queue.{Queue}
use Rattle.queue.specs.Record.{no_window, gap, weight, first_place, last_place, kind, rows, weight_list, windows, kind_list}
use Rattle.queue.specs.Reading.{placed, cleared}
use Rattle.queue_laws.proofs.WindowArray.{none_past}

-- outside the columns and rows that are placed nothing changes
placed_past : (n m : ℕ) → n ≤ 5 → (rows : List (List ℕ)) (gaps : List ℕ) (k : ℕ) → All (λ r. length r ≡ n) rows
    → (n ≤ m % 5) ⊎ (k + length rows ≤ m / 5) → get_or (placed gaps k rows) m 0 ≡ get_or gaps m 0
unfolding placed
placed_past n m five [] gaps k h out = refl
placed_past n m five (r ∷ rs) gaps k h out = placed_past n m five rs (sets gaps (gap_row k) r) (suc k) h.1 (next out) ∙ here (below_or_not m (gap_row k)) out
  where
    next : (n ≤ m % 5) ⊎ (k + suc (length rs) ≤ m / 5) → (n ≤ m % 5) ⊎ (suc k + length rs ≤ m / 5)
    next (inl e) = inl e
    next (inr e) = inr (omega arith)

    here : (m < gap_row k) ⊎ (gap_row k ≤ m) → (n ≤ m % 5) ⊎ (k + suc (length rs) ≤ m / 5) → get_or (sets gaps (gap_row k) r) m 0 ≡ get_or gaps m 0
    here (inl b) o = get_d_sets_before gaps (gap_row k) r m b
    here (inr b) (inl e) = get_d_sets_past gaps (gap_row k) r m (omega (arith, h.0))
    here (inr b) (inr e) = get_d_sets_past gaps (gap_row k) r m (omega (arith, h.0))

module _ (q : Queue) where
  pub weights_past : (k : ℕ) → q.kinds ≤ k → get_or (cleared q).weights k 0 ≡ 0
  unfolding cleared
  weights_past k h = filled_past 5 (weight_list q) k (omega (arith, length_tabulate (weight q) 1 q.kinds))

  pub windows_past : (k : ℕ) → q.kinds ≤ k → get_or (cleared q).windows k no_window ≡ no_window
  unfolding cleared
  windows_past k h = none_past (windows q) k (omega (arith, length_tabulate {A = ℕ × ℕ} (λ j. (first_place q j, last_place q j)) 1 q.kinds))

  -- gap columns past N in each row, and rows past N
  pub gaps_past : q.kinds ≤ 5 → (k : ℕ) → (q.kinds ≤ k % 5) ⊎ (q.kinds + 1 ≤ k / 5) → get_or (cleared q).gaps k 0 ≡ 0
  unfolding cleared
  gaps_past five k out =
      let row : ℕ → List ℕ = λ i. tabulate (gap q i) 1 q.kinds in
      let long = length_tabulate row 0 (q.kinds + 1) in
      placed_past q.kinds k five (rows q) (replicate 30 0) 0 (all_tabulate row (λ r. length r ≡ q.kinds) 0 (q.kinds + 1) (λ i l u. length_tabulate (gap q i) 1 q.kinds)) (far long out)
      ∙ get_d_zeros 30 k
    where
      far : length (rows q) ≡ q.kinds + 1 → (q.kinds ≤ k % 5) ⊎ (q.kinds + 1 ≤ k / 5) → (q.kinds ≤ k % 5) ⊎ (0 + length (rows q) ≤ k / 5)
      far e (inl h) = inl h
      far e (inr h) = inr (omega arith)

  pub kinds_past : (k : ℕ) → q.jobs ≤ k → get_or (cleared q).job_kinds k 0 ≡ 0
  unfolding cleared
  kinds_past k h = filled_past 60 (kind_list q) k (omega (arith, length_tabulate (kind q) 1 q.jobs))
