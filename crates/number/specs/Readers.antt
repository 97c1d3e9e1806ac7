-- Readers of messages: what a step finds at a position, and one step after the other in message order.
use Rattle.std.specs.Prelude.{ℕ, zero, suc, List, [], ◌∷◌}
use Rattle.refusal.specs.declared.Reason.{Reason}

-- a value and the position behind its bytes, or the one refusal
pub data Found (A : Type 0) : Type 0 where
  found : A → ℕ → Found A
  refused : Reason → Found A

-- what is found in a message's bytes at a position
abbrev pub Reader : Type 0 → Type 0
Reader A = List ℕ → ℕ → Found A

-- the next step goes on where the value ends; a refusal ends the message ("before the next")
abbrev pub and_then : {A B : Type 0} → Found A → (A → ℕ → Found B) → Found B
and_then (found a n) next = next a n
and_then (refused r) next = refused r

-- one step after the other; `>>` where the next needs no value of the first
infixl 10 ◌>>=◌ ◌>>◌
abbrev pub ◌>>=◌ : {A B : Type 0} → Reader A → (A → Reader B) → Reader B
◌>>=◌ first next s at = and_then (first s at) (λ a n. next a s n)

abbrev pub ◌>>◌ : {A B : Type 0} → Reader A → Reader B → Reader B
◌>>◌ first next s at = and_then (first s at) (λ a n. next s n)

-- a step that reads nothing
abbrev pub give : {A : Type 0} → A → Reader A
give a s at = found a at

-- what one reader finds so many times, one after the other
unfoldable pub times : {A : Type 0} → ℕ → Reader A → Reader (List A)
times zero one s at = found [] at
times (suc n) one s at = and_then (one s at) (λ a i. and_then (times n one s i) (λ more j. found (a ∷ more) j))

-- what is found, without its value
abbrev pub behind : {A : Type 0} → Found A → Found (Unit {0})
behind f = and_then f (λ _ n. found tt n)
