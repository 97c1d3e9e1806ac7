-- Any call that plans, by how it ends: its answer fits 64 bits, a refusal changes only what 01 says, and what becomes of the buffer.
-- Assumes nothing.
use Rattle.std.specs.Prelude.{Err}
use Prim.Native.Nat.{ℕ, ◌*◌, ◌^◌, ◌≤◌, ◌<◌}
use mathlib.Core.List.{List}
use mathlib.Core.Logic.{◌↔◌, ◌≢◌}
use mathlib.Core.Option.{Option, none, some}
use mathlib.Core.Path.{◌≡◌, refl, sym, ap, ◌∙◌}
use native.Mathlib.Omega.{arith}
use lib.ListN.{length, take, drop}
use lib.Seq.{sets, length-sets}
use Rattle.refusal.specs.declared.Reason.{Reason}
use Rattle.refusal.specs.declared.Reason.TheVariants.{NoOrder}
use Rattle.refusal.specs.Reasons.{reason_number, needed}
use Rattle.refusal.specs.Answers.{answer_number}
use Rattle.refusal.proofs.Reasons.{reason_range, refusal_of_lem}
use Rattle.fields.proofs.Writers.{stands, behind}
use Rattle.queue.specs.declared.Queue.{Queue}
use Rattle.queue.specs.Reading.{read_queue}
use Rattle.sequencing.proofs.Options.{none_some}
use Rattle.best_order.specs.Endings.{Ending, refused, unplannable, planned, answer_of, buffer_of, filled_for, table_of, LeavesTable}
use Rattle.best_order.specs.Changes.{Changes}

-- an ending of a call on message s: a refusal is not 17 and carries no more than a table's size, 17 is of the message's queue, and a plan is short
abbrev pub OfCall : List ℕ → Ending → Type 0
OfCall s (refused r) = (reason_number r ≢ 17) × (needed r < 2 ^ 42)
OfCall s (unplannable q) = q ≡ (read_queue s).queue
OfCall s (planned q plan) = length plan ≤ 77

pub answer_fits : (s : List ℕ) (e : Ending) → OfCall s e → answer_number (answer_of e) < 2 ^ 64
answer_fits s (refused r) (_, few) = omega (arith, few, reason_range r)
answer_fits s (unplannable q) of = omega arith
answer_fits s (planned q plan) short = omega (arith, short)

-- an ending that fills the table refuses with 17 only
pub only_17 : {q : Queue} (e : Ending) → table_of e ≡ filled_for q → (r : Reason) → answer_of e ≡ Err r → reason_number r ≡ 17
only_17 (refused r') fills r a = absurd (let z : ◌≡◌ {A = ℕ} 0 1 = cc in omega arith)
only_17 (unplannable q') fills r a = omega (arith, ap answer_number a, reason_range r)
only_17 (planned q' plan) fills r a = absurd (omega (arith, ap answer_number a, reason_range r))

-- ---- 17 or a plan

-- an ending by a cost: 17 where there is none, else a plan of the queue
pub record ByCost (q : Queue) (f : Option ℕ → Ending) : Type 0 where
  pub on_none : f none ≡ unplannable q
  pub on_some : (c : ℕ) → (plan : List ℕ) × (f (some c) ≡ planned q plan)

module _ {q : Queue} {f : Option ℕ → Ending} (by : ByCost q f) where
  -- either fills the table
  pub cost_fills : (r : Option ℕ) → table_of (f r) ≡ filled_for q
  cost_fills none = ap table_of by.on_none
  cost_fills (some c) = ap table_of (by.on_some c).1

  -- and it is 17 where there is none
  pub cost_17 : (r : Option ℕ) → (answer_number (answer_of (f r)) ≡ 17) ↔ (r ≡ none)
  cost_17 none = ((λ _. refl), (λ _. rw by.on_none refl))
  cost_17 (some c) = ((λ a. absurd (omega (arith, rw (by.on_some c).1 at a))), (λ e. absurd (none_some c (sym e))))

  -- by the answer itself
  pub cost_none : (r : Option ℕ) → (answer_of (f r) ≡ Err NoOrder) ↔ (r ≡ none)
  cost_none r = ((λ a. (cost_17 r).0 (ap answer_number a)), (λ e. rw (e, by.on_none) refl))

-- ---- what is left

-- an ending that leaves this table and this buffer changes only what 01 says
pub changes : (s table buffer table' buffer' : List ℕ) (e : Ending) → OfCall s e → LeavesTable (table_of e) table table' → buffer' ≡ buffer_of e buffer
    → Changes s table buffer table' buffer' (answer_number (answer_of e))
changes s table buffer table' buffer' (refused r) (other, _) kept same = record {
  unchanged = λ _ _. (kept, same);
  filled = λ a. absurd (other (sym (refusal_of_lem r) ∙ a));
}
changes s table buffer table' buffer' (unplannable q) of filled same = record {
  unchanged = λ _ other. absurd (other refl);
  filled = λ _. (rw of at filled, same);
}
changes s table buffer table' buffer' (planned q plan) short filled written = record {
  unchanged = λ refusal _. absurd (omega arith);
  filled = λ a. absurd (omega arith);
}

module _ (buffer buffer' : List ℕ) where
  -- a written plan stands in the buffer
  pub plan_stands : (plan : List ℕ) → length plan ≤ length buffer → buffer' ≡ sets buffer 0 plan
      → (length plan ≤ length buffer') × (take (length plan) buffer' ≡ plan)
  plan_stands plan short holds = (rw (holds, length-sets) short, rw holds (stands plan buffer short))

  -- bytes behind a plan are as before
  pub bytes_behind : (s : List ℕ) (e : Ending) → OfCall s e → 77 ≤ length buffer → buffer' ≡ buffer_of e buffer
      → (n : ℕ) → answer_number (answer_of e) ≡ 256 * n → drop n buffer' ≡ drop n buffer
  bytes_behind s (refused r) of h same n a = ap (drop n) same
  bytes_behind s (unplannable q) of h same n a = ap (drop n) same
  bytes_behind s (planned q plan) short h holds n a = let e : n ≡ length plan = omega arith in rw (e, holds) (behind plan buffer (omega (arith, short)))

  -- on 17 all bytes are
  pub none_written : (e : Ending) → buffer' ≡ buffer_of e buffer → answer_number (answer_of e) ≡ 17 → buffer' ≡ buffer
  none_written (refused r) same a = same
  none_written (unplannable q) same a = same
  none_written (planned q plan) holds a = absurd (omega arith)
