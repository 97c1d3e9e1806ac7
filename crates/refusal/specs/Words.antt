-- The word that document 01 has printed beside a refusal's number.
use Rattle.std.specs.Prelude.{ℕ, List, [], ◌∷◌}
use Prim.Native.Char.{code}
use Prim.Native.String.{String, [] as empty, ◌∷◌ as ◌then◌}
use Rattle.refusal.specs.declared.Group.{Group}
use Rattle.refusal.specs.declared.Group.TheVariants.{Message, Contents, Room, Order as InOrder, Unprinted}

-- the bytes of a text in ASCII
unfoldable pub bytes : String → List ℕ
bytes empty = []
bytes (c then rest) = code c ∷ bytes rest

-- G: `message`, `contents`, `room`, `order`
abbrev pub word : Group → List ℕ
word Message = bytes "message"
word Contents = bytes "contents"
word Room = bytes "room"
word InOrder = bytes "order"
word Unprinted = []
