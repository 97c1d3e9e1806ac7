-- What reading and writing plans promise together.
-- Assumes nothing.
use Rattle.std.specs.Prelude.{Err}
use Prim.Native.Nat.{ℕ, ◌≤◌}
use mathlib.Core.Path.{◌≡◌, ap}
use mathlib.Core.Logic.{◌↔◌, ◌≢◌, inl, inr}
use mathlib.Core.List.{List}
use lib.ListN.{length, take}
use Rattle.refusal.specs.declared.Reason.{Reason}
use Rattle.refusal.specs.Answers.{verdict_number, refusal_of, Written, Accepted}
use Rattle.number.proofs.Steps.{below_or_not}
use Rattle.fields.specs.Lists.{Bytes}
use Rattle.fields.proofs.Judged.{high_out}
use Rattle.fields.proofs.Answering.{written_alike}
use Rattle.fields.proofs.Writers.{writes}
use Rattle.plan.specs.declared.Plan.{Plan}
use Rattle.plan.specs.Record.{Valid}
use Rattle.plan.specs.Reading.{plan, blank, cleared, as_reading, read_plan}
use Rattle.plan.specs.Writing.{message, judge, write_plan, written_plan}
use Rattle.plan.specs.Writer.{WritesPlan}
use Rattle.formats.proofs.Readings.{Reads, refused_blank as blank_of, accepted_known, accepted_back, accepted_if, refused_like, writer_laws}
use Rattle.plan_laws.proofs.Format.{Fits, plan_message}
use Rattle.plan_laws.proofs.JobLists.{cleared_list, cleared_same, cleared_message}

-- reading gives the record that was found, or the refusal with the record of zeros
pub reads : Reads plan blank (λ s. (read_plan s).verdict) (λ s. (read_plan s).plan)
unfolding read_plan
reads = record { on_found = λ s p n e. (rw e, rw e); on_refused = λ s r e. (rw e, rw e) }

-- ---- written and read

-- a valid record, written and read, is the same record up to T, and 0 past it
pub written_read : (p : Plan) → Valid p → read_plan (message p) ≡ record { verdict = Accepted; plan = cleared p }
unfolding read_plan
written_read p v = ap as_reading (plan_message.written p v)

-- accepted bytes, read and written, are the same bytes, and what was read is valid
pub read_written : (s : List ℕ) → Bytes s → (read_plan s).verdict ≡ Accepted → (message (read_plan s).plan ≡ s) × Valid (read_plan s).plan
read_written = accepted_back plan_message reads

-- an accepted record holds 0 past T
pub accepted_cleared : (s : List ℕ) → (read_plan s).verdict ≡ Accepted → cleared (read_plan s).plan ≡ (read_plan s).plan
accepted_cleared s a = (accepted_known plan_message reads s a).1

-- bytes are accepted exactly when they are the message of a valid record
pub accepted_exactly : (s : List ℕ) → Bytes s → ((read_plan s).verdict ≡ Accepted) ↔ ((p : Plan) × Valid p × (s ≡ message p))
accepted_exactly = accepted_if plan_message reads

-- demand 2 of the writer, from its answer and the buffer that it leaves
pub plan_writes : {p : Plan} {buffer buffer' : List ℕ} {answer : Written} → answer ≡ write_plan p (length buffer) → buffer' ≡ written_plan p buffer
    → WritesPlan p buffer buffer' answer
unfolding write_plan written_plan
plan_writes {p} {buffer} {buffer'} {answer} e after =
    writes (writer_laws plan_message reads (λ p v. cleared_same p v.jobs)) p buffer buffer' answer (e, after)

-- no accepted plan is longer than 77 bytes
pub message_length : (p : Plan) → Valid p → length (message p) ≤ 77
message_length p v = plan_message.short p v

-- the first 79 bytes decide the answer
pub first_79 : (s : List ℕ) → read_plan (take 79 s) ≡ read_plan s
unfolding read_plan
first_79 s = ap as_reading (plan_message.same s)

-- ---- the verdict

-- it accepts exactly what is valid
pub judged_valid : (p : Plan) → judge p ≡ Accepted → Valid p
judged_valid p e = (plan_message.accepts p).0 e

pub valid_judged : (p : Plan) → Valid p → judge p ≡ Accepted
valid_judged p v = (plan_message.accepts p).1 v

-- a refused reading, by its number alone: the record is all 0
pub refused_blank : (s : List ℕ) → refusal_of (verdict_number (read_plan s).verdict) ≢ 0 → (read_plan s).plan ≡ blank
refused_blank = blank_of reads

-- a record that fits a message: the writer refuses it with the refusal that the reader would give its message
pub refused_alike : (p : Plan) (r : Reason) → Fits p → judge p ≡ Err r → (read_plan (message p)).verdict ≡ Err r
refused_alike = refused_like plan_message reads

-- what stands past T makes no difference to the verdict on a record, to the writer's answer, and to the buffer
pub cleared_judge : (p : Plan) → judge (cleared p) ≡ judge p
unfolding judge
cleared_judge p = elim (below_or_not 60 p.jobs) [ inl h ↦ rw (high_out 0 60 p.jobs h) | inr h ↦ rw (cleared_list p h) ]

pub cleared_writes : (p : Plan) (buffer : List ℕ)
    → (write_plan (cleared p) (length buffer) ≡ write_plan p (length buffer)) × (written_plan (cleared p) buffer ≡ written_plan p buffer)
unfolding write_plan written_plan
cleared_writes p buffer =
    written_alike 77 (judge (cleared p)) (judge p) (message (cleared p)) (message p) (cleared_judge p)
    (λ e. cleared_message p (judged_valid p e).jobs) (length buffer) buffer
