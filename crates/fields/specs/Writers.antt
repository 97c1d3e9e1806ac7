-- What a writer promises: demand 2 of the writer itself, and that its refusals change nothing. Said once for every message.
use Rattle.std.specs.Prelude.{ℕ, ◌≤◌, List, ◌≢◌, ◌≡◌, length, take, drop, Ok}
use Rattle.refusal.specs.Answers.{written_number, refusal_of, value_of, Verdict, Written, Accepted}
use Rattle.fields.specs.Lists.{Bytes}

-- a message: the bytes that its buffer must have, 01's bounds on a record, records that agree up to their counts, and what reading bytes gives
module _ {R : Type 0} (least : ℕ) (Valid : R → Type 0) (Same : R → R → Type 0) (verdict : List ℕ → Verdict) (record_of : List ℕ → R) where
  -- of a record, the buffer before and after, and the answer, with its number R + 256 × V
  pub record Writes (r : R) (buffer buffer' : List ℕ) (answer : Written) : Type 0 where
    -- "refused readers and writers change no lent byte": where R is not 0
    pub refused : refusal_of (written_number answer) ≢ 0 → buffer' ≡ buffer
    -- demand 2, "round trips compare up to N and T": a valid record is written, in V bytes, its reader accepts them and reads the same record
    pub written : Valid r → least ≤ length buffer
        → (n : ℕ) × (answer ≡ Ok n) × (refusal_of (written_number answer) ≡ 0) × (value_of (written_number answer) ≡ n) × (n ≤ length buffer')
        × (verdict (take n buffer') ≡ Accepted) × Same (record_of (take n buffer')) r
    -- accepted bytes, read and written again, are the same bytes
    pub rewritten : (s : List ℕ) → Bytes s → verdict s ≡ Accepted → r ≡ record_of s → least ≤ length buffer
        → (answer ≡ Ok (length s)) × (take (length s) buffer' ≡ s)
    -- "bytes past a written message keep what they had"
    pub behind : (n : ℕ) → answer ≡ Ok n → drop n buffer' ≡ drop n buffer
