-- What a writer answers, and leaves in the buffer.
-- Assumes nothing.
use Rattle.refusal.specs.Answers.{Verdict, Written, Accepted}
use Rattle.std.specs.Prelude.{Ok, Err}
use Prim.Native.Nat.{ℕ}
use mathlib.Core.Path.{◌≡◌, refl, ap}
use mathlib.Core.List.{List}
use lib.ListN.{length}
use Rattle.fields.specs.Messages.{write_answer, buffer_after}

-- records that get one verdict, and one message where it accepts, are written alike
pub written_alike : (least : ℕ) (v w : Verdict) (message message' : List ℕ) → v ≡ w → (w ≡ Accepted → message ≡ message')
    → (room : ℕ) (buffer : List ℕ) → (write_answer least v room message ≡ write_answer least w room message')
    × (buffer_after (write_answer least v room message) message buffer ≡ buffer_after (write_answer least w room message') message' buffer)
written_alike least v (Ok tt) message message' e alike room buffer =
    let same = alike refl in
    (rw e (ap (write_answer least Accepted room) same), rw e (ap (λ (s : List ℕ). buffer_after (write_answer least Accepted room s) s buffer) same))
written_alike least v (Err r) message message' e alike room buffer = (rw e, rw e)

-- a writer's answer, and the buffer after it
abbrev pub Answered : ℕ → Verdict → List ℕ → List ℕ → Written → List ℕ → Type 0
Answered least verdict message buffer answer after =
    let due = write_answer least verdict (length buffer) message in (answer ≡ due) × (after ≡ buffer_after due message buffer)
