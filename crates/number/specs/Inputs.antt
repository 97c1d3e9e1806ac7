-- Reading from an input.
use Rattle.std.specs.Prelude.{ℕ, ◌≡◌, Result, Ok, Err}
use Rattle.refusal.specs.declared.Reason.{Reason}
use Rattle.number.specs.declared.Input.{Input}
use Rattle.number.specs.Readers.{Found, found, refused, Reader}

-- what is found at a position, as an answer and the position behind it say it
abbrev pub ending : {A : Type 0} → Result A Reason → ℕ → Found A
ending (Ok a) n = found a n
ending (Err r) n = refused r

-- an input before and after, and the answer: what the reader finds at the input's position
abbrev pub Reads : {A : Type 0} → Reader A → (old new : Input) → Result A Reason → Type 0
Reads read old new result = (new.bytes ≡ old.bytes) × (read old.bytes.now old.at ≡ ending result new.at)

-- what a whole message gives its caller: the value, or the refusal
abbrev pub answered : {A : Type 0} → Found A → Result A Reason
answered (found a n) = Ok a
answered (refused r) = Err r
