-- Runs in which each thing is judged by those before it. What those left is a state, which each thing takes one step further.
use Rattle.refusal.specs.Answers.{Verdict, Accepted}
use Rattle.std.specs.Prelude.{ℕ, zero, suc, Bool, true, ◌&&◌, List, [], ◌∷◌, ◌++◌}
use Rattle.number.specs.Readers.{Found, found, refused, Reader, and_then}
use Rattle.fields.specs.Messages.{◌before◌}

-- n things, each read by what the earlier ones left
unfoldable pub in_order : {S A : Type 0} → (S → Reader A) → (S → A → S) → ℕ → S → Reader (List A)
in_order one step zero state s at = found [] at
in_order one step (suc n) state s at = and_then (one state s at) (λ a i. and_then (in_order one step n (step state a) s i) (λ more k. found (a ∷ more) k))

-- what is listed behind a step: nothing where it is refused
abbrev pub thereafter : {A B : Type 0} → Found A → (A → ℕ → List B) → List B
thereafter (found a n) next = next a n
thereafter (refused r) next = []

-- of n such things, those before the first refusal
unfoldable pub in_order_before : {S A : Type 0} → (S → Reader A) → (S → A → S) → ℕ → S → List ℕ → ℕ → List A
in_order_before one step zero state s at = []
in_order_before one step (suc n) state s at = thereafter (one state s at) (λ a i. a ∷ in_order_before one step n (step state a) s i)

-- of n things, each read by itself, those before the first refusal
abbrev pub read_before : {A : Type 0} → ℕ → Reader A → List ℕ → ℕ → List A
read_before n one = in_order_before {S = Unit {0}} (λ _. one) (λ _ _. tt) n tt

-- each thing in a list passes the test, after what the earlier ones left
unfoldable pub all_in_order : {S A : Type 0} → (S → A → Bool) → (S → A → S) → S → List A → Bool
all_in_order ok step state [] = true
all_in_order ok step state (a ∷ more) = ok state a && all_in_order ok step (step state a) more

-- the first refusal in a list, each thing judged after what the earlier ones left
unfoldable pub in_turn : {S A : Type 0} → (S → A → Verdict) → (S → A → S) → S → List A → Verdict
in_turn judge step state [] = Accepted
in_turn judge step state (a ∷ more) = judge state a before in_turn judge step (step state a) more

-- a step that leaves the earlier things themselves, in order
abbrev pub followed_by : {A : Type 0} → List A → A → List A
followed_by earlier a = earlier ++ (a ∷ [])
