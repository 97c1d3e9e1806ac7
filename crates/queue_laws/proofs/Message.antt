-- The definitions of the queue message are its format's, of a record's parts; so the laws of formats hold of them.
-- Assumes nothing.
use Rattle.refusal.specs.Answers.{Accepted}
use Prim.Native.Nat.{ℕ, ◌+◌, ◌^◌, ◌<◌, ◌≤◌}
use mathlib.Core.Path.{◌≡◌, refl}
use mathlib.Core.List.{List, [], ◌∷◌, ◌++◌, flat_map, append_assoc}
use native.Mathlib.Omega.{arith}
use lib.ListN.{length}
use Rattle.refusal.specs.declared.Reason.{Reason}
use Rattle.refusal.specs.declared.Reason.TheVariants.{Opening, LeftOver, Edition, Kinds, Goal, Shift, Start, Gap, Pupils, Places, Jobs, JobKind}
use Rattle.number.specs.Numbers.{encode}
use Rattle.fields.specs.Fields.{encode_all}
use Rattle.fields.specs.Lists.{tabulate}
use Rattle.fields.proofs.Orders.{kept}
use Rattle.fields.proofs.Codecs.{All, all_map}
use Rattle.fields.proofs.Tables.{length_tabulate, all_tabulate, tabulate_all}
use Rattle.fields.proofs.Arrays.{array_back}
use Rattle.queue.specs.declared.Queue.{Queue}
use Rattle.queue.specs.Record.{gap, weight, first_place, last_place, kind, rows, weight_list, windows, kind_list, Valid, Fits}
use Rattle.queue.specs.Reading.{settings, tables, head, head_of, with_jobs, jobs, queue, cleared}
use Rattle.queue.specs.Writing.{encode_window, head_bytes, job_bytes, message, judge_settings, judge_tables, judge_head, judge_jobs, judge}
use Rattle.formats.proofs.Verdicts.{before_assoc}
use Rattle.formats.proofs.Pairs.{and_assoc}
use Rattle.formats.proofs.Runs.{InTurn, each_all, all_any}
use Rattle.formats.proofs.Whole.{whole}
use Rattle.formats.proofs.Messages.{Message, Tied, laws}
use Rattle.queue_laws.proofs.GapRows.{rows_back}
use Rattle.queue_laws.proofs.WindowArray.{windows_back}
use Rattle.queue_laws.proofs.Format.{WindowOk, settings_format, Parts, settings_of, tables_of, rows_of, weights_of, windows_of, jobs_of, kinds_of, queue_format}

-- a record's parts, up to N and T
abbrev pub view : Queue → Parts
view q = (1, (record { kinds = q.kinds; goal = q.goal; max_shift = q.max_shift; start = q.start }, ((rows q, (weight_list q, windows q)), (q.jobs, kind_list q))))

-- the record that parts are read to
abbrev pub make : Parts → Queue
make p = with_jobs (head_of (settings_of p) (rows_of p) (weights_of p) (windows_of p)) (jobs_of p) (kinds_of p)

-- ---- the definitions are the format's

read_is : (s : List ℕ) → queue s 0 ≡ whole 0x51 0x53 queue_format make s 0
unfolding queue head settings tables jobs
read_is s = simp and_assoc

-- the message's bytes, grouped as its parts are
grouped : (o e n g m s r w p t k : List ℕ) → o ++ e ++ (n ++ g ++ m ++ s ++ r ++ w ++ p) ++ (t ++ k) ≡ o ++ (e ++ ((n ++ (g ++ (m ++ s))) ++ ((r ++ (w ++ p)) ++ (t ++ k))))
grouped o e n g m s r w p t k = simp append_assoc

pub message_is : (q : Queue) → message q ≡ (0x51 ∷ 0x53 ∷ []) ++ queue_format.write (view q)
unfolding message head_bytes job_bytes
message_is q =
    grouped (0x51 ∷ 0x53 ∷ []) (encode 1) (encode q.kinds) (encode q.goal) (encode q.max_shift) (encode q.start)
    (flat_map encode_all (rows q)) (encode_all (weight_list q)) (flat_map encode_window (windows q)) (encode q.jobs) (encode_all (kind_list q))

pub judge_is : (q : Queue) → judge q ≡ queue_format.judge (view q)
unfolding judge judge_head judge_settings judge_tables judge_jobs
judge_is q = before_assoc (judge_settings q) (judge_tables q) (judge_jobs q)

-- settings that are accepted have at most 5 kinds
pub few_kinds : (q : Queue) → judge_settings q ≡ Accepted → q.kinds ≤ 5
unfolding judge_settings
few_kinds q e = (((settings_format {Given = Unit {0}}).accepts tt (settings_of (view q)) (tt, (tt, (tt, tt)))).0 e).0.1

-- ---- a record made of parts holds them

-- as many of each table's numbers as N says, in arrays that hold them
pub record TablesFit (p : Parts) : Type 0 where
  pub few : (settings_of p).kinds ≤ 5
  pub rows : length (rows_of p) ≡ (settings_of p).kinds + 1
  pub columns : All (λ r. length r ≡ (settings_of p).kinds) (rows_of p)
  pub weights : length (weights_of p) ≡ (settings_of p).kinds
  pub windows : length (windows_of p) ≡ (settings_of p).kinds

module _ (p : Parts) where
  pub tables_back : TablesFit p → tables_of (view (make p)) ≡ tables_of p
  tables_back fit =
      let n = (settings_of p).kinds in
      let gaps-same = rows_back n (rows_of p) fit.few fit.rows fit.columns in
      let weights-same = array_back 5 n (weights_of p) fit.weights fit.few in
      let windows_same = windows_back (windows_of p) n fit.few fit.windows in
      λ i. (gaps-same i, (weights-same i, windows_same i))

  pub kinds_back : length (kinds_of p) ≡ jobs_of p → jobs_of p ≤ 60 → kind_list (make p) ≡ kinds_of p
  kinds_back long few = array_back 60 (jobs_of p) (kinds_of p) long few

  holds : queue_format.Known p → view (make p) ≡ p
  holds (edition-ok, (settings_ok, ((gaps-ok, (weights-ok, windows-ok)), (count-ok, kinds-ok)))) =
      let one : 1 ≡ p.0 = omega (arith, edition-ok) in
      let fit : TablesFit p = record {
        few = settings_ok.0.1;
        rows = gaps-ok.0;
        columns = all_map _ _ (rows_of p) (λ r h. h.0) gaps-ok.1;
        weights = weights-ok.0;
        windows = windows-ok.0;
      } in
      let tables = tables_back fit in
      let kinds = kinds_back kinds-ok.0 count-ok.1 in
      λ i. (one i, (settings_of p, (tables i, (jobs_of p, kinds i))))

-- ---- a record's own parts

module _ (q : Queue) where
  abbrev row : ℕ → List ℕ
  row i = tabulate (gap q i) 1 q.kinds

  -- a gap row as 01 allows it
  abbrev RowOk : List ℕ → Type 0
  RowOk r = (length r ≡ q.kinds) × All (λ w. (0 ≤ w) × (w ≤ 65536)) r

  abbrev places : ℕ → ℕ × ℕ
  places j = (first_place q j, last_place q j)

  -- any record has as many of each as its N and T say
  pub sized : queue_format.Sized (view q)
  sized =
      let rows-sized = all_tabulate row (λ r. (length r ≡ q.kinds) × All (λ v. Unit {0}) r) 0 (q.kinds + 1) (λ i a b. (length_tabulate (gap q i) 1 q.kinds, all_any (row i))) in (
        tt,
        (
          (tt, (tt, (tt, tt))),
          (
            ((length_tabulate row 0 (q.kinds + 1), rows-sized), ((length_tabulate (weight q) 1 q.kinds, all_any (weight_list q)), (length_tabulate places 1 q.kinds, all_any (windows q)))),
            (tt, (length_tabulate (kind q) 1 q.jobs, all_any (kind_list q))),
          ),
        ),
      )

  -- what is found is what 01 allows
  ok_valid : queue_format.Known (view q) → Valid q
  ok_valid (edition-ok, (settings_ok, ((gaps-ok, (weights-ok, windows-ok)), (count-ok, kinds-ok)))) =
      record {
        kinds = settings_ok.0;
        goal = settings_ok.1.0;
        shift = settings_ok.1.1.0.1;
        start = settings_ok.1.1.1.1;
        gaps = λ i j a b d. (tabulate_all (gap q i) (λ v. (0 ≤ v) × (v ≤ 65536)) 1 q.kinds (tabulate_all row RowOk 0 (q.kinds + 1) gaps-ok.1 i (omega arith) (omega arith)).1 j b (omega arith)).1;
        weights = λ j a b. (tabulate_all (weight q) (λ v. (0 ≤ v) × (v ≤ 1000)) 1 q.kinds weights-ok.1 j a (omega arith)).1;
        places = λ j a b. tabulate_all places WindowOk 1 q.kinds windows-ok.1 j a (omega arith);
        jobs = count-ok.1;
        kinds_of_jobs = λ i a b. tabulate_all (kind q) (λ v. (1 ≤ v) × (v ≤ q.kinds)) 1 q.jobs kinds-ok.1 i a (omega arith);
      }

  valid_ok : Valid q → queue_format.Ok (view q)
  valid_ok v =
      let (_, (_, ((gaps-sized, (weights-sized, windows-sized)), (_, kinds-sized)))) = sized in
      let row_ok : (i : ℕ) → 0 ≤ i → i < 0 + (q.kinds + 1) → RowOk (row i) = λ i a b.
      (length_tabulate (gap q i) 1 q.kinds, all_tabulate (gap q i) (λ w. (0 ≤ w) × (w ≤ 65536)) 1 q.kinds (λ j c d. (omega arith, v.gaps i j (omega arith) c (omega arith)))) in
      let gaps-ok = all_tabulate row RowOk 0 (q.kinds + 1) row_ok in
      let weights-ok = all_tabulate (weight q) (λ w. (0 ≤ w) × (w ≤ 1000)) 1 q.kinds (λ j a b. (omega arith, v.weights j a (omega arith))) in
      let windows-ok = all_tabulate places WindowOk 1 q.kinds (λ j a b. v.places j a (omega arith)) in
      let kinds-ok = all_tabulate (kind q) (λ w. (1 ≤ w) × (w ≤ q.kinds)) 1 q.jobs (λ i a b. v.kinds_of_jobs i a (omega arith)) in (
        (omega arith, omega arith),
        (
          (v.kinds, (v.goal, ((omega arith, v.shift), (omega arith, v.start)))),
          (((gaps-sized.0, gaps-ok), ((weights-sized.0, weights-ok), (windows-sized.0, windows-ok))), ((omega arith, v.jobs), (kinds-sized.0, kinds-ok))),
        ),
      )

  -- numbers of at most three groups
  fits_small : Fits q → queue_format.Small (view q)
  fits_small f =
      let each : (xs : List ℕ) → All (λ v. v < 2 ^ 21) xs → InTurn kept (λ _ v. v < 2 ^ 21) tt xs = λ xs. (each_all kept tt (λ v. v < 2 ^ 21) xs).1 in (
        omega arith,
        (
          (f.kinds, (f.goal, (f.shift, f.start))),
          (
            (
              (each_all kept tt (λ r. InTurn kept (λ _ v. v < 2 ^ 21) tt r) (rows q)).1
                  (all_tabulate row _ 0 (q.kinds + 1) (λ i a b. each (row i) (all_tabulate (gap q i) _ 1 q.kinds (λ j c d. f.gaps i j (omega arith) c (omega arith))))),
              (
                each (weight_list q) (all_tabulate (weight q) _ 1 q.kinds (λ j a b. f.weights j a (omega arith))),
                (each_all kept tt (λ (w : ℕ × ℕ). (w.0 < 2 ^ 21) × (w.1 < 2 ^ 21)) (windows q)).1 (all_tabulate places _ 1 q.kinds (λ j a b. f.places j a (omega arith))),
              ),
            ),
            (f.jobs, each (kind_list q) (all_tabulate (kind q) _ 1 q.jobs (λ i a b. f.kinds_of_jobs i a (omega arith)))),
          ),
        ),
      )

tied : Tied 0x51 0x53 queue_format make view queue message Valid Valid Fits judge cleared
unfolding cleared
tied = record {
  read_is = read_is;
  message_is = message_is;
  valid_is = λ q. (ok_valid q, valid_ok q);
  known_is = ok_valid;
  fits_is = fits_small;
  judge_is = judge_is;
  cleared_is = λ q. refl;
  sized = sized;
  holds = holds;
}

-- 01's refusals 1 to 14, beside 2 and 3, which any number can give
abbrev pub queue_refusals : List Reason
queue_refusals = Opening ∷ LeftOver ∷ Edition ∷ Kinds ∷ Goal ∷ Shift ∷ Start ∷ Gap ∷ Pupils ∷ Places ∷ Jobs ∷ JobKind ∷ []

-- at most 178 bytes, of which the first 180 decide
pub queue_message : Message queue message Valid Valid Fits judge cleared 178 180 queue_refusals
queue_message = laws tied 180 (omega arith) (omega arith)
