-- The queue message as one format: what stands between its opening and its end, in message order.
-- The numbers of each format: the most bytes it has, the bytes that decide what is found, and the refusals it can give beside 2 and 3.
-- Assumes nothing.
use Prim.Native.Nat.{ℕ, ◌+◌, ◌^◌, ◌≤◌}
use mathlib.Core.Path.{◌≡◌, refl, subst₂}
use mathlib.Core.List.{List, [], ◌∷◌}
use native.Mathlib.Omega.{arith}
use lib.ListN.{length-append}
use borrow.Author.Tests.{lt-ltb}
use Rattle.refusal.specs.declared.Reason.TheVariants.{Edition, Kinds, Goal, Shift, Start, Gap, Pupils, Places, Jobs, JobKind}
use Rattle.number.specs.Readers.{found}
use Rattle.number.specs.Numbers.{number, encode}
use Rattle.number.proofs.Steps.{went_on, found_value, found_next}
use Rattle.number.proofs.Encoding.{length_encode}
use Rattle.fields.specs.Fields.{field, within, all}
use Rattle.fields.specs.Messages.{check}
use Rattle.fields.proofs.Judged.{field_found}
use Rattle.fields.proofs.RoundTrip.{number_ends}
use Rattle.queue.specs.Record.{window_ok}
use Rattle.queue.specs.Reading.{Settings, window}
use Rattle.queue.proofs.Windows.{good_window, window_good}
use Rattle.formats.proofs.Verdicts.{judged_accepts}
use Rattle.formats.proofs.Formats.{Format}
use Rattle.formats.proofs.Telling.{rejudged, mapped}
use Rattle.formats.proofs.Numbers.{any_number, tested, one_byte}
use Rattle.formats.proofs.Pairs.{and_next}
use Rattle.formats.proofs.Repeated.{alike, numbers}

-- N, goal, m, s
abbrev settings_parts : {Given : Type 0} → Format (ℕ × (ℕ × (ℕ × ℕ))) Given 4 6 (Kinds ∷ Goal ∷ Shift ∷ Start ∷ [])
settings_parts =
    and_next (one_byte 1 5 Kinds (λ z. omega arith)) λ n.
    and_next (one_byte 1 2 Goal (λ z. omega arith)) λ goal.
    and_next (one_byte 0 60 Shift (λ z. omega arith)) λ shift.
    one_byte 0 n Start (λ z. omega arith)

-- .. read to their record
abbrev pub settings_format : {Given : Type 0} → Format Settings Given 4 6 (Kinds ∷ Goal ∷ Shift ∷ Start ∷ [])
settings_format = mapped settings_parts (λ p. record { kinds = p.0; goal = p.1.0; max_shift = p.1.1.0; start = p.1.1.1 })
    (λ f. (f.kinds, (f.goal, (f.max_shift, f.start)))) (λ p. refl) (λ f. refl)

-- a_j b_j as 01 allows them
abbrev pub WindowOk : ℕ × ℕ → Type 0
WindowOk w = (1 ≤ w.0) × (w.0 ≤ w.1) × (w.1 ≤ 60)

-- where they end: a_j, which is not judged by itself, is at most b_j, and so each has one byte
pub window_ends : (s : List ℕ) (at : ℕ) (w : ℕ × ℕ) (n : ℕ) → window s at ≡ found w n → WindowOk w × (n ≤ at + 2)
window_ends s at w n e =
    let (a, i, e₁, q₁) = went_on (number 3 s at) _ w n e in
    let (b, k, e₂, q₂) = went_on (field 3 (λ b. window_ok (a, b)) Places s i) _ w n q₁ in
    let (f, t) = field_found 3 (λ b. window_ok (a, b)) Places s i b k e₂ in
    let ok = good_window a b t in
    let first = (number_ends 3 s at a i e₁).1 1 (omega arith) (omega arith) in
    let last = (number_ends 3 s i b k f).1 1 (omega arith) (omega arith) in
    subst₂ (λ (w : ℕ × ℕ) (m : ℕ). WindowOk w × (m ≤ at + 2)) (found_value (a, b) w k n q₂) (found_next (a, b) w k n q₂) (ok, omega arith)

-- a_j b_j: any number, then one that is judged with it
abbrev pub window_format : {Given : Type 0} → Format (ℕ × ℕ) Given 2 6 (Places ∷ [])
window_format =
    rejudged (and_next (any_number 3 (omega arith)) λ a. tested 3 (λ b. window_ok (a, b)) Places 1 (omega arith) (omega arith) (λ z b e. let k = good_window a b e in (omega arith, omega arith)))
    (record {
      Ok = WindowOk;
      Known = WindowOk;
      known = λ z w k. k;
      finds = λ z. window_ends;
      Sized = λ w. Unit;
      judge = λ w. check (window_ok w) Places;
      ok_is = λ z w. (λ k. good_window w.0 w.1 k.1, λ k. (omega (arith, k), window_good w.0 w.1 k.0 k.1 k.2));
      short = λ z w k. omega (arith, length-append (encode w.0) (encode w.1), length_encode 1 w.0 (omega arith) (omega (arith, k)), length_encode 1 w.1 (omega arith) (omega (arith, k)));
      accepts = λ z w _. (λ e. good_window w.0 w.1 ((judged_accepts (window_ok w) Places).0 e), λ k. (judged_accepts (window_ok w) Places).1 (window_good w.0 w.1 k.0 k.1 k.2));
      sized_is = λ w n. (tt, tt);
      judge_is = λ w k. rw (lt-ltb w.0 (128 ^ 3) k.0);
    })

-- gap rows 0 to N (N numbers each), w_1 .. w_N, a_1 b_1 .. a_N b_N
abbrev pub Tables : Type 0
Tables = List (List ℕ) × (List ℕ × List (ℕ × ℕ))

abbrev pub tables_format : {Given : Type 0} (n : ℕ) → (Given → n ≤ 5) → Format Tables Given 110 114 (Gap ∷ Pupils ∷ Places ∷ [])
tables_format n few =
    and_next (alike (numbers n 5 few 0 65536 Gap 3 (omega arith) (λ z. (omega arith, omega arith))) (all (within 0 65536)) Gap (λ row. refl) (n + 1) 6 (λ z. let k = few z in omega arith)) λ rows.
    and_next (numbers n 5 (λ z. few z.0) 0 1000 Pupils 2 (omega arith) (λ z. (omega arith, omega arith))) λ weights.
    alike window_format window_ok Places (λ w. refl) n 5 (λ z. few z.0.0)

-- T, then the T kinds
abbrev pub jobs_format : {Given : Type 0} (n : ℕ) → (Given → n ≤ 5) → Format (ℕ × List ℕ) Given 61 63 (Jobs ∷ JobKind ∷ [])
jobs_format n few =
    and_next (one_byte 0 60 Jobs (λ z. omega arith)) λ t.
    numbers t 60 (λ z. omega arith) 1 n JobKind 1 (omega arith) (λ z. let k = few z.0 in (omega arith, omega arith))

-- edition, settings, tables, jobs
abbrev pub Parts : Type 0
Parts = ℕ × (Settings × (Tables × (ℕ × List ℕ)))

module _ (p : Parts) where
  abbrev pub settings_of : Settings
  settings_of = p.1.0

  abbrev pub tables_of : Tables
  tables_of = p.1.1.0

  abbrev pub rows_of : List (List ℕ)
  rows_of = tables_of.0

  abbrev pub weights_of : List ℕ
  weights_of = tables_of.1.0

  abbrev pub windows_of : List (ℕ × ℕ)
  windows_of = tables_of.1.1

  abbrev pub jobs_of : ℕ
  jobs_of = p.1.1.1.0

  abbrev pub kinds_of : List ℕ
  kinds_of = p.1.1.1.1

-- the whole: edition 1, then N to the allowed places, then the jobs
abbrev pub queue_format : Format Parts (Unit {0}) 176 178 (Edition ∷ Kinds ∷ Goal ∷ Shift ∷ Start ∷ Gap ∷ Pupils ∷ Places ∷ Jobs ∷ JobKind ∷ [])
queue_format =
    and_next (one_byte 1 1 Edition (λ z. omega arith)) λ edition.
    and_next settings_format λ f.
    and_next (tables_format f.kinds (λ z. omega arith)) λ tables.
    jobs_format f.kinds (λ z. omega arith)
