-- R + 256 × V of each answer: R is 0 or the refusal, V the bytes of a written message, the number that was asked for, the needed entries for 16, else 0.
use Rattle.std.specs.Prelude.{ℕ, Result, Ok, Err, ◌+◌, ◌*◌, ◌/◌, ◌%◌}
use Rattle.refusal.specs.declared.Reason.{Reason}
use Rattle.refusal.specs.declared.Sizes.{Sizes}
use Rattle.refusal.specs.Reasons.{reason_number, needed}

-- how reading a message ends: accepted, or refused
abbrev pub Verdict : Type 0
Verdict = Result (Unit {0}) Reason

-- nothing is refused
abbrev pub Accepted : Verdict
Accepted = Ok tt

-- how writing a message ends: with the number of its bytes, or refused
abbrev pub Written : Type 0
Written = Result ℕ Reason

-- how planning ends: with the number of the plan's bytes, or refused
abbrev pub Answer : Type 0
Answer = Result ℕ Reason

-- how asking for a table's size ends: with both numbers, or refused
abbrev pub TableSize : Type 0
TableSize = Result Sizes Reason

-- R is the refusal, V the needed entries for 16, else 0
abbrev pub refusal_number : Reason → ℕ
refusal_number r = reason_number r + 256 * needed r

-- a reading: R and V are 0 where the message is accepted
abbrev pub verdict_number : Verdict → ℕ
verdict_number (Ok tt) = 0
verdict_number (Err r) = refusal_number r

-- a writing: V is the number of bytes written
abbrev pub written_number : Written → ℕ
written_number (Ok n) = 256 * n
written_number (Err r) = refusal_number r

-- planning: V is the number of the plan's bytes
abbrev pub answer_number : Answer → ℕ
answer_number (Ok n) = 256 * n
answer_number (Err r) = refusal_number r

-- a table's size, asked for its entries: V is N × P ..
abbrev pub entries_number : TableSize → ℕ
entries_number (Ok s) = 256 * s.entries
entries_number (Err r) = refusal_number r

-- .. and asked for the largest kept count: V is that
abbrev pub most_number : TableSize → ℕ
most_number (Ok s) = 256 * s.most_feasible
most_number (Err r) = refusal_number r

-- R of an answer's number
abbrev pub refusal_of : ℕ → ℕ
refusal_of a = a % 256

-- V of an answer's number
abbrev pub value_of : ℕ → ℕ
value_of a = a / 256
