-- Writing to an output.
use Rattle.std.specs.Prelude.{ℕ, List, ◌≡◌, ◌≤◌, ◌+◌, length}
use Rattle.std.proofs.lemmas.List.Edits.{sets}
use Rattle.number.specs.declared.Output.{Output}

-- the buffer holds so many more bytes
abbrev pub HasRoom : (bytes : List ℕ) → Output → Type 0
HasRoom bytes o = o.at + length bytes ≤ length o.buffer.now

-- an output before and after: the bytes stand at its position, and the others are as before
abbrev pub Writes : (bytes : List ℕ) → (old new : Output) → Type 0
Writes bytes old new = (new.buffer.ghost_name ≡ old.buffer.ghost_name) × (new.at ≡ old.at + length bytes) × (new.buffer.now ≡ sets old.buffer.now old.at bytes)
