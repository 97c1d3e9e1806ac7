-- A check's answer as a number: it is that of the verdict, and fits 64 bits, since no refusal of a message carries anything. A table's size fits too.
-- Assumes nothing.
use Rattle.std.specs.Prelude.{Result, Ok, Err}
use Prim.Native.Nat.{ℕ, ◌^◌, ◌<◌}
use mathlib.Core.List.{List}
use mathlib.Core.Logic.{◌⊎◌, inl, inr}
use mathlib.Core.Path.{◌≡◌, refl}
use native.Mathlib.Omega.{arith}
use Rattle.refusal.specs.declared.Reason.{Reason}
use Rattle.refusal.specs.Answers.{refusal_number, verdict_number, entries_number, most_number, Verdict, TableSize}
use Rattle.refusal.proofs.Reasons.{OfMessage, reason_range, of_message_needed}
use Rattle.number.specs.Readers.{Reader}
use Rattle.number.specs.Inputs.{answered}
use Rattle.formats.proofs.Readings.{Reads, accepted_answer, refused_answer}
use Rattle.queue.specs.declared.Queue.{Queue}
use Rattle.queue.specs.Reading.{queue, read_queue}
use Rattle.queue_laws.proofs.Theorems.{reads as queue_reads, queue_refusal, queue_of_message}
use Rattle.plan.specs.declared.Plan.{Plan}
use Rattle.plan.specs.Reading.{plan, read_plan}
use Rattle.plan_laws.proofs.Theorems.{reads as plan_reads}
use Rattle.plan_laws.proofs.Refusals.{plan_refusal, plan_of_message}
use Rattle.table_size.specs.Sizes.{table_size}
use Rattle.table_size.proofs.Sizing.{size_fits}

-- R + 256 × V of a reader's answer: of a message that is accepted nothing is asked
abbrev pub checked : {A : Type 0} → Result A Reason → ℕ
checked (Ok a) = 0
checked (Err r) = refusal_number r

-- the number of a verdict that fits
abbrev pub Numbers : ℕ → Verdict → Type 0
Numbers n v = (n < 2 ^ 64) × (n ≡ verdict_number v)

module _ {R : Type 0} {read : Reader R} {blank : R} {verdict : List ℕ → Verdict} {record_of : List ℕ → R} (T : Reads read blank verdict record_of)
    (own : (s : List ℕ) (r : Reason) → verdict s ≡ Err r → OfMessage r) (s : List ℕ) where
  by_verdict : (v : Verdict) → verdict s ≡ v → Numbers (checked (answered (read s 0))) v
  by_verdict (Ok tt) e = rw (accepted_answer T s e) (omega arith, refl)
  by_verdict (Err r) e = rw (refused_answer T s r e) (omega (arith, of_message_needed r (own s r e), reason_range r), refl)

-- what a reader answers of s, as a number n
pub queue_number : (s : List ℕ) (n : ℕ) {a : Result Queue Reason} → a ≡ answered (queue s 0) → n ≡ checked a → Numbers n (read_queue s).verdict
queue_number s n e f = rw (f, e) (by_verdict queue_reads (λ t r h. queue_of_message r (queue_refusal t r h)) s (read_queue s).verdict refl)

pub plan_number : (s : List ℕ) (n : ℕ) {a : Result Plan Reason} → a ≡ answered (plan s 0) → n ≡ checked a → Numbers n (read_plan s).verdict
plan_number s n e f = rw (f, e) (by_verdict plan_reads (λ t r h. plan_of_message r (plan_refusal t r h)) s (read_plan s).verdict refl)

-- either number of a table's size
pub size_number : (s : List ℕ) (n : ℕ) {t : TableSize} → t ≡ table_size (read_queue s) → (n ≡ entries_number t) ⊎ (n ≡ most_number t) → n < 2 ^ 64
size_number s n e either = let both = size_fits s _ refl in elim either [ inl f ↦ rw (f, e) both.0 | inr f ↦ rw (f, e) both.1 ]
