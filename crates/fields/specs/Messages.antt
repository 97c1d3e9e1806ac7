-- What every message has: its two ends, the checks of a record that is to be written, and the buffer that it is written to.
use Rattle.refusal.specs.Answers.{Verdict, Written, Accepted}
use Rattle.std.specs.Prelude.{ℕ, Bool, cond, ◌&&◌, List, leb, ltb, eqb, length, get_or, Ok, Err}
use Rattle.std.proofs.lemmas.List.Edits.{sets}
use Rattle.refusal.specs.declared.Reason.{Reason}
use Rattle.refusal.specs.declared.Reason.TheVariants.{Opening, LeftOver, Buffer}
use Rattle.number.specs.Readers.{found, refused, Reader}

-- the first two bytes are a and b
unfoldable pub opens : ℕ → ℕ → List ℕ → Bool
opens a b s = ltb 1 (length s) && eqb (get_or s 0 0) a && eqb (get_or s 1 0) b

-- first two bytes: 1 where they are missing or other
abbrev pub opening : ℕ → ℕ → Reader (Unit {0})
opening a b s at = cond (opens a b s) (found tt 2) (refused Opening)

-- after the last number: 14 where bytes are left over
abbrev pub end : Reader (Unit {0})
end s at = cond (eqb at (length s)) (found tt at) (refused LeftOver)

-- one check of a record: its refusal where it fails
abbrev pub check : Bool → Reason → Verdict
check ok why = cond ok Accepted (Err why)

-- one part judged before another: the first that refuses
infixr 20 ◌before◌
abbrev pub ◌before◌ : Verdict → Verdict → Verdict
◌before◌ (Ok tt) later = later
◌before◌ (Err r) later = Err r

-- writers first judge the record, then give 15 for a buffer under so many bytes
abbrev pub write_answer : ℕ → Verdict → ℕ → List ℕ → Written
write_answer least (Ok tt) room message = cond (leb least room) (Ok (length message)) (Err Buffer)
write_answer least (Err r) room message = Err r

-- bytes past a written message keep what they had; a refused writer changes nothing
abbrev pub buffer_after : Written → List ℕ → List ℕ → List ℕ
buffer_after (Ok n) message buffer = sets buffer 0 message
buffer_after (Err r) message buffer = buffer
