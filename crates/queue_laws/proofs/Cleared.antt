-- What stands past N and T in a record makes no difference to a writer: the verdict and the message are those of the record's parts.
-- Assumes nothing.
use Rattle.refusal.specs.Answers.{Verdict}
use Rattle.std.specs.Prelude.{Err}
use Prim.Native.Nat.{ℕ, ◌<◌, ◌≤◌}
use mathlib.Core.Path.{◌≡◌, refl, sym, ap, ◌∙◌}
use mathlib.Core.Logic.{inl, inr}
use mathlib.Core.List.{List, [], ◌∷◌, ◌++◌}
use lib.ListN.{length}
use Rattle.refusal.specs.declared.Reason.TheVariants.{Kinds, Jobs}
use Rattle.number.proofs.Steps.{below_or_not}
use Rattle.fields.specs.Messages.{◌before◌}
use Rattle.fields.proofs.Judged.{high_out}
use Rattle.fields.proofs.Codecs.{all_map}
use Rattle.fields.proofs.Answering.{written_alike}
use Rattle.queue.specs.declared.Queue.{Queue}
use Rattle.queue.specs.Record.{rows, Valid, Same}
use Rattle.queue.specs.Reading.{cleared}
use Rattle.queue.specs.Writing.{message, judge_settings, judge_tables, judge_head, judge_jobs, judge, write_queue, written_queue}
use Rattle.queue.proofs.Same.{alike_same}
use Rattle.queue_laws.proofs.Format.{Parts, settings_of, rows_of, weights_of, windows_of, kinds_of, tables_format, queue_format}
use Rattle.queue_laws.proofs.Message.{view, TablesFit, tables_back, kinds_back, sized, message_is, judge_is, queue_message}

-- two records with the same parts
module _ (q r : Queue) (same : view q ≡ view r) where
  same_judge : judge q ≡ judge r
  same_judge = judge_is q ∙ ap queue_format.judge same ∙ sym (judge_is r)

  same_message : message q ≡ message r
  same_message = message_is q ∙ ap (λ (p : Parts). (0x51 ∷ 0x53 ∷ []) ++ queue_format.write p) same ∙ sym (message_is r)

module _ (q : Queue) where
  -- a record's tables fit its arrays
  tables_fit : q.kinds ≤ 5 → TablesFit (view q)
  tables_fit five =
      let (_, (_, ((gaps, (weights, windows)), _))) = sized q in
      record { few = five; rows = gaps.0; columns = all_map _ _ (rows q) (λ r h. h.0) gaps.1; weights = weights.0; windows = windows.0 }

  -- the parts of a record within the arrays' bounds are those of the record with 0 past N and T
  cleared_view : q.kinds ≤ 5 → q.jobs ≤ 60 → view (cleared q) ≡ view q
  unfolding cleared
  cleared_view five few =
      let tables = tables_back (view q) (tables_fit five) in
      let kinds = kinds_back (view q) (sized q).1.1.1.1.0 few in
      λ i. (1, (settings_of (view q), (tables i, (q.jobs, kinds i))))

  -- a record with too many kinds or jobs is refused before the arrays that cannot hold so many are looked at
  many_kinds : 5 < q.kinds → judge q ≡ Err Kinds
  unfolding judge judge_head judge_settings
  many_kinds h = rw (high_out 1 5 q.kinds h)

  many_jobs : 60 < q.jobs → judge q ≡ (judge_settings q before judge_tables q) before Err Jobs
  unfolding judge judge_head judge_jobs
  many_jobs h = rw (high_out 0 60 q.jobs h)

module _ (q : Queue) where
  cleared_tables : q.kinds ≤ 5 → judge_tables (cleared q) ≡ judge_tables q
  unfolding cleared judge_tables
  cleared_tables five = ap (tables_format {Given = Unit {0} × (q.kinds ≤ 5)} q.kinds (λ z. z.1)).judge (tables_back (view q) (tables_fit q five))

  cleared_judge : judge (cleared q) ≡ judge q
  unfolding cleared judge_settings
  cleared_judge = elim (below_or_not 5 q.kinds) [
    | inl h ↦ many_kinds (cleared q) h ∙ sym (many_kinds q h)
    | inr h ↦ elim (below_or_not 60 q.jobs) [
      | inl t ↦ many_jobs (cleared q) t ∙ ap (λ (v : Verdict). (judge_settings q before v) before Err Jobs) (cleared_tables h) ∙ sym (many_jobs q t)
      | inr t ↦ same_judge (cleared q) q (cleared_view q h t)
    ]
  ]

  -- a record and the record with 0 past N and T have the same message
  pub cleared_message : Valid q → message (cleared q) ≡ message q
  cleared_message v = same_message (cleared q) q (cleared_view q v.kinds.1 v.jobs)

  -- and agree up to N and T
  pub cleared_same : Valid q → Same (cleared q) q
  unfolding cleared
  cleared_same v =
      let alike = cleared_view q v.kinds.1 v.jobs in
      alike_same (record {
        kinds = refl;
        goal = refl;
        shift = refl;
        start = refl;
        jobs = refl;
        rows = ap rows_of alike;
        weights = ap weights_of alike;
        windows = ap windows_of alike;
        kind_list_lem = ap kinds_of alike;
      })

  -- the writer's answer and the buffer: for every record, also one that is refused
  pub cleared_writes : (buffer : List ℕ)
      → (write_queue (cleared q) (length buffer) ≡ write_queue q (length buffer)) × (written_queue (cleared q) buffer ≡ written_queue q buffer)
  unfolding write_queue written_queue
  cleared_writes buffer =
      written_alike 178 (judge (cleared q)) (judge q) (message (cleared q)) (message q) cleared_judge
      (λ e. cleared_message ((queue_message.accepts q).0 e)) (length buffer) buffer
