-- What reading and writing queues promise together.
-- Assumes nothing.
use Rattle.std.specs.Prelude.{Err}
use Prim.Native.Nat.{ℕ, ◌≤◌}
use mathlib.Core.Path.{◌≡◌, ap}
use mathlib.Core.Logic.{◌↔◌, ◌≢◌}
use mathlib.Core.List.{List}
use native.Mathlib.Omega.{arith}
use lib.ListN.{length, take}
use Rattle.refusal.specs.declared.Reason.{Reason}
use Rattle.refusal.specs.Answers.{verdict_number, refusal_of, Written, Accepted}
use Rattle.refusal.proofs.Reasons.{OfMessage}
use Rattle.fields.specs.Lists.{Bytes}
use Rattle.fields.proofs.Writers.{writes}
use Rattle.queue.specs.declared.Queue.{Queue}
use Rattle.queue.specs.Record.{Valid, Fits}
use Rattle.queue.specs.Reading.{queue, blank, accepted, as_reading, read_queue, cleared}
use Rattle.queue.specs.Writing.{message, judge, write_queue, written_queue}
use Rattle.queue.specs.Writer.{WritesQueue}
use Rattle.queue.specs.Refusals.{QueueRefusal, on_opening, on_ends, on_groups, on_edition, on_kinds, on_goal, on_shift, on_start, on_gap, on_pupils, on_places, on_jobs, on_job_kind, on_left_over}
use Rattle.formats.proofs.Refusals.{arises_in}
use Rattle.formats.proofs.Readings.{Reads, refused_blank as blank_of, accepted_known, accepted_back, accepted_if, refusal_arises, refused_like, writer_laws}
use Rattle.queue_laws.proofs.Message.{queue_refusals, queue_message}
use Rattle.queue_laws.proofs.Cleared.{cleared_same}

-- reading gives the record that was found, or the refusal with the record of zeros
pub reads : Reads queue blank (λ s. (read_queue s).verdict) (λ s. (read_queue s).queue)
unfolding read_queue
reads = record { on_found = λ s q n e. (rw e, rw e); on_refused = λ s r e. (rw e, rw e) }

-- ---- written and read

-- a record within 01's bounds, written and read, is the same record up to N and T, and 0 past them
pub written_read : (q : Queue) → Valid q → read_queue (message q) ≡ accepted (cleared q)
unfolding read_queue
written_read q v = ap as_reading (queue_message.written q v)

-- accepted bytes, read and written again, are the same bytes
pub read_written : (s : List ℕ) → Bytes s → (read_queue s).verdict ≡ Accepted → message (read_queue s).queue ≡ s
read_written s y a = (accepted_back queue_message reads s y a).0

-- an accepted record is within 01's bounds ..
pub accepted_valid : (s : List ℕ) → (read_queue s).verdict ≡ Accepted → Valid (read_queue s).queue
accepted_valid s a = (accepted_known queue_message reads s a).0

-- .. and holds 0 past N and T
pub accepted_cleared : (s : List ℕ) → (read_queue s).verdict ≡ Accepted → cleared (read_queue s).queue ≡ (read_queue s).queue
accepted_cleared s a = (accepted_known queue_message reads s a).1

-- bytes are accepted exactly when they are the message of a record within 01's bounds
pub accepted_exactly : (s : List ℕ) → Bytes s → ((read_queue s).verdict ≡ Accepted) ↔ ((q : Queue) × Valid q × (s ≡ message q))
accepted_exactly = accepted_if queue_message reads

-- demand 2 of the writer, from its answer and the buffer that it leaves
pub queue_writes : {q : Queue} {buffer buffer' : List ℕ} {answer : Written} → answer ≡ write_queue q (length buffer) → buffer' ≡ written_queue q buffer
    → WritesQueue q buffer buffer' answer
unfolding write_queue written_queue
queue_writes {q} {buffer} {buffer'} {answer} e after = writes (writer_laws queue_message reads cleared_same) q buffer buffer' answer (e, after)

-- the first 180 bytes decide the answer
pub first_180 : (s : List ℕ) → read_queue (take 180 s) ≡ read_queue s
unfolding read_queue
first_180 s = ap as_reading (queue_message.same s)

-- a message has at most 178 bytes
pub message_length : (q : Queue) → Valid q → length (message q) ≤ 178
message_length q v = queue_message.short q v

-- the writer's verdict accepts exactly the records within 01's bounds
pub judged_exactly : (q : Queue) → (judge q ≡ Accepted) ↔ Valid q
judged_exactly = queue_message.accepts

-- ---- refusals

-- a refused reading, by its number alone: the record is all 0
pub refused_blank : (s : List ℕ) → refusal_of (verdict_number (read_queue s).verdict) ≢ 0 → (read_queue s).queue ≡ blank
refused_blank = blank_of reads

-- the refusals of queue messages are 01's 1 to 14 ..
pub queue_refusal : (s : List ℕ) (r : Reason) → (read_queue s).verdict ≡ Err r → QueueRefusal r
queue_refusal s r e =
    arises_in QueueRefusal on_ends on_groups queue_refusals
    (on_opening, (on_left_over, (on_edition, (on_kinds, (on_goal, (on_shift, (on_start, (on_gap, (on_pupils, (on_places, (on_jobs, (on_job_kind, tt)))))))))))) r
    (refusal_arises queue_message reads s r e)

-- .. and none of them is planning's own
pub queue_of_message : (r : Reason) → QueueRefusal r → OfMessage r
queue_of_message r on_opening = omega arith
queue_of_message r on_ends = omega arith
queue_of_message r on_groups = omega arith
queue_of_message r on_edition = omega arith
queue_of_message r on_kinds = omega arith
queue_of_message r on_goal = omega arith
queue_of_message r on_shift = omega arith
queue_of_message r on_start = omega arith
queue_of_message r on_gap = omega arith
queue_of_message r on_pupils = omega arith
queue_of_message r on_places = omega arith
queue_of_message r on_jobs = omega arith
queue_of_message r on_job_kind = omega arith
queue_of_message r on_left_over = omega arith

-- a record that fits a message: the writer refuses it with the refusal that the reader would give its message
pub refused_alike : (q : Queue) (r : Reason) → Fits q → judge q ≡ Err r → (read_queue (message q)).verdict ≡ Err r
refused_alike = refused_like queue_message reads
