-- The loops over the gap rows and over the windows: their invariants, and what a turn does to them.
-- Assumes nothing.
use Prim.Native.Nat.{ℕ, suc, ◌+◌, ◌-◌, ◌<◌, ◌≤◌}
use mathlib.Core.Path.{◌≡◌, refl, sym, ap, ◌∙◌}
use mathlib.Core.List.{List, [], ◌∷◌, ◌++◌, map}
use native.Mathlib.Omega.{arith}
use lib.ListN.{length, take, drop, set, length-set, length-map}
use lib.Seq.{sets, length-sets}
use Rattle.gaps.specs.Gaps.{gap_row}
use Rattle.refusal.specs.declared.Reason.{Reason}
use Rattle.refusal.specs.declared.Reason.TheVariants.{Gap}
use Rattle.number.specs.Readers.{Found, found, refused, Reader, and_then, times, behind}
use Rattle.number.proofs.Steps.{found_value, found_next, not_found, not_refused}
use Rattle.fields.specs.Fields.{field, within}
use Rattle.fields.specs.Orders.{read_before}
use Rattle.fields.proofs.Orders.{kept, times_in_order}
use Rattle.fields.proofs.Runs.{Listing, all_listed, in_order_lem, before_found, before_few}
use Rattle.fields.proofs.Parts.{part_length, sets_mid}
use Rattle.fields.proofs.Loops.{Looping, loop_none, loop_more, loop_stop, loop_done, behind_found, behind_refused, front_stored}
use Rattle.queue.specs.declared.Window.{Window}
use Rattle.queue.specs.Reading.{held, window, placed}
use Rattle.queue_reader.specs.Arrays.{rows_before, held_window}

-- one gap
abbrev pub gap_field : Reader ℕ
gap_field = field 3 (within 0 65536) Gap

-- of a refused row, what was read of it
pub in_rows : (k : ℕ) (one : Reader ℕ) (s : List ℕ)
    → Listing (λ _. times k one) kept s (λ i. read_before k one s i ∷ []) (λ n _ i. rows_before n k one s i)
unfolding rows_before
in_rows k one s = record { none = λ _ i. refl; more = λ n _ i row j e. rw (e, before_found one s k i row j e); stop = λ n _ i r e. rw e }

pub rows_found : (n k : ℕ) (one : Reader ℕ) (s : List ℕ) (i : ℕ) (rows : List (List ℕ)) (j : ℕ) → times n (times k one) s i ≡ found rows j
    → rows_before n k one s i ≡ rows
rows_found n k one s i rows j e = all_listed (in_rows k one s) n tt i rows j (sym (times_in_order (times k one) n s i) ∙ e)

-- before gap row `row`
pub record Rows (s : List ℕ) (at kinds : ℕ) (gaps₀ gaps : List ℕ) (i row : ℕ) : Type 0 where
  pub long : length gaps ≡ 30
  pub loop : Looping (in_rows kinds gap_field s) placed (kinds + 1) (times (kinds + 1) (times kinds gap_field) s at)
      (placed gaps₀ 0 (rows_before (kinds + 1) kinds gap_field s at)) tt gaps i row

module _ {s : List ℕ} {at kinds : ℕ} {gaps₀ : List ℕ} where
  pub rows_none : length gaps₀ ≡ 30 → Rows s at kinds gaps₀ gaps₀ at 0
  rows_none long = record { long = long; loop = loop_none (times_in_order (times kinds gap_field) (kinds + 1) s at) refl }

  -- a row's part of the array, and what was stored in it
  module _ {gaps : List ℕ} {i row : ℕ} (w : Rows s at kinds gaps₀ gaps i row) (from : ℕ) (begins : from ≡ gap_row row) (h : row ≤ kinds)
      (few : kinds ≤ 5) (new : List ℕ)
      (stored : let part = take (from + kinds - from) (drop from gaps) in new ≡ sets part 0 (read_before (length part) gap_field s i)) where
    abbrev part : List ℕ
    part = take (from + kinds - from) (drop from gaps)

    abbrev after : List ℕ
    after = take from gaps ++ (new ++ drop (from + kinds - from) (drop from gaps))

    back : from + kinds - from ≡ kinds
    back = omega arith

    fits : from + kinds ≤ length gaps
    fits = omega (arith, w.long, begins)

    long : length part ≡ kinds
    long = rw back (part_length gaps from kinds fits)

    after_lem : after ≡ sets gaps from (read_before kinds gap_field s i)
    after_lem = rw (stored, long, back) (sets_mid from kinds (read_before kinds gap_field s i) gaps (before_few kinds gap_field s i) fits)

    pub rows_more : (next : ℕ) → behind (times (length part) gap_field s i) ≡ found tt next → Rows s at kinds gaps₀ after next (row + 1)
    unfolding placed
    rows_more next e =
        let (vs, f) = behind_found (times kinds gap_field s i) next (rw long at e) in
        let same : sets gaps (gap_row row) vs ≡ after =
        ap (sets gaps (gap_row row)) (sym (before_found gap_field s kinds i vs next f))
        ∙ ap (λ (k : ℕ). sets gaps k (read_before kinds gap_field s i)) (sym begins)
        ∙ sym after_lem in
        record {
          long = ap length after_lem ∙ length-sets gaps from (read_before kinds gap_field s i) ∙ w.long;
          loop = loop_more w.loop (omega arith) vs next _ f (λ rest. ap (λ (l : List ℕ). placed l (suc row) rest) same);
        }

    -- the last row
    pub rows_last : (next : ℕ) → behind (times (length part) gap_field s i) ≡ found tt next → kinds < row + 1
        → (behind (times (kinds + 1) (times kinds gap_field) s at) ≡ found tt next)
        × (after ≡ placed gaps₀ 0 (rows_before (kinds + 1) kinds gap_field s at))
    unfolding placed
    rows_last next e last = let (ends, left) = loop_done (rows_more next e).loop (omega (arith, last)) in (sym ends, left)

    pub rows_stop : (r : Reason) → behind (times (length part) gap_field s i) ≡ refused r
        → (behind (times (kinds + 1) (times kinds gap_field) s at) ≡ refused r)
        × (after ≡ placed gaps₀ 0 (rows_before (kinds + 1) kinds gap_field s at))
    unfolding placed
    rows_stop r e =
        let (ends, left) = loop_stop w.loop (omega arith) r (behind_refused (times kinds gap_field s i) r (rw long at e)) in
        (sym ends, after_lem ∙ rw begins left)

-- ---- the windows

held_found : (f : Found (ℕ × ℕ)) (x : Window) (n : ℕ) → and_then f (λ w i. found (held w) i) ≡ found x n → (w : ℕ × ℕ) × (f ≡ found w n) × (x ≡ held w)
held_found (found w m) x n e = (w, ap (found w) (found_next (held w) x m n e), sym (found_value (held w) x m n e))
held_found (refused r) x n e = not_found r x n e

held_refused : (f : Found (ℕ × ℕ)) (r : Reason) → and_then f (λ w i. found (held w) i) ≡ refused r → f ≡ refused r
held_refused (found w n) r e = not_refused r (held w) n e
held_refused (refused q) r e = cc

-- before window k, from 0
pub record Windows (s : List ℕ) (at : ℕ) (out₀ out : List Window) (i k : ℕ) : Type 0 where
  pub long : length out ≡ length out₀
  pub loop : Looping (in_order_lem (λ _. window) kept s) (λ out k ws. sets out k (map held ws)) (length out₀) (times (length out₀) window s at)
      (sets out₀ 0 (map held (read_before (length out₀) window s at))) tt out i k

module _ {s : List ℕ} {at : ℕ} {out₀ : List Window} where
  pub windows_none : Windows s at out₀ out₀ at 0
  windows_none = record { long = refl; loop = loop_none (times_in_order window (length out₀) s at) refl }

  module _ {out : List Window} {i k : ℕ} (w : Windows s at out₀ out i k) where
    pub windows_more : (x : Window) (next : ℕ) → k < length out₀ → held_window s i ≡ found x next → Windows s at out₀ (set out k x) next (k + 1)
    windows_more x next h e =
        let (v, f, is) = held_found (window s i) x next e in
        record { long = length-set out k x ∙ w.long; loop = loop_more w.loop h v next (set out k x) f (λ rest. ap (λ (y : Window). sets (set out k y) (suc k) (map held rest)) (sym is)) }

    pub windows_stop : k < length out₀ → (r : Reason) → held_window s i ≡ refused r
        → (behind (times (length out₀) window s at) ≡ refused r) × (out ≡ sets out₀ 0 (map held (read_before (length out₀) window s at)))
    windows_stop h r e = let (ends, left) = loop_stop w.loop h r (held_refused (window s i) r e) in (sym ends, left)

    pub windows_done : length out₀ ≤ k
        → (behind (times (length out₀) window s at) ≡ found tt i) × (out ≡ sets out₀ 0 (map held (read_before (length out₀) window s at)))
    windows_done h = let (ends, left) = loop_done w.loop h in (sym ends, left)

-- windows that were stored in the first n places of an array
pub windows_stored : (n : ℕ) (l out : List Window) → n ≤ length l → (s : List ℕ) (i : ℕ) → out ≡ sets (take n l) 0 (map held (read_before (length (take n l)) window s i))
    → (ws : List (ℕ × ℕ)) (j : ℕ) → times n window s i ≡ found ws j → out ++ drop n l ≡ sets l 0 (map held ws)
windows_stored n l out room s i e ws j f =
    let few : length (map held (read_before n window s i)) ≤ n = omega (arith, before_few n window s i, length-map (read_before n window s i) held) in
    front_stored n l room (λ k. map held (read_before k window s i)) few out e (map held ws) (ap (map held) (before_found window s n i ws j f))
