-- An answer and what is left, as those of an ending.
-- Assumes nothing.
use Rattle.refusal.specs.Answers.{Answer}
use Rattle.std.specs.Prelude.{Err}
use Prim.Native.Nat.{ℕ}
use mathlib.Core.List.{List}
use mathlib.Core.Path.{◌≡◌, refl}
use Rattle.refusal.specs.declared.Reason.{Reason}
use Rattle.best_order.specs.Endings.{Ending, refused, answer_of, buffer_of, table_of, LeavesTable}

abbrev pub Ends : Ending → Answer → (table buffer table' buffer' : List ℕ) → Type 0
Ends e answer table buffer table' buffer' = (answer ≡ answer_of e) × (LeavesTable (table_of e) table table' × (buffer' ≡ buffer_of e buffer))

pub ends_as : {e e' : Ending} {answer : Answer} (table buffer table' : List ℕ) {buffer' : List ℕ} → e ≡ e'
    → Ends e' answer table buffer table' buffer' → Ends e answer table buffer table' buffer'
ends_as table buffer table' h x = rw h x

-- a refusal that changes nothing
pub ends_refused : {e : Ending} {r : Reason} (table buffer : List ℕ) → e ≡ refused r → Ends e (Err r) table buffer table buffer
ends_refused table buffer h = rw h (refl, (refl, refl))
