-- Demand 3 and the planning contract, from what planning answers and leaves.
-- Assumes nothing.
use Prim.Native.Nat.{ℕ, ◌*◌, ◌≤◌}
use mathlib.Core.List.{List}
use mathlib.Core.Logic.{◌≢◌}
use mathlib.Core.Option.{Option, none, some}
use mathlib.Core.Path.{◌≡◌, refl, ap, ◌∙◌}
use native.Mathlib.Omega.{arith}
use lib.ListN.{length, get_or, take}
use borrow.Author.Tests.{lt-ltb, le-ltb}
use Rattle.refusal.specs.Answers.{answer_number, Answer}
use Rattle.queue.specs.declared.Queue.{Queue}
use Rattle.queue.specs.Record.{Valid}
use Rattle.queue.specs.Reading.{read_queue}
use Rattle.queue_laws.proofs.Theorems.{accepted_valid}
use Rattle.plan.specs.Reading.{read_plan}
use Rattle.plan.specs.Writing.{message}
use Rattle.plan_laws.proofs.Theorems.{message_length}
use Rattle.sequencing.specs.Problem.{Problem}
use Rattle.sequencing.specs.States.{IsPair}
use Rattle.sequencing.specs.Recursion.{value, plan_cost}
use Rattle.sequencing.specs.Entries.{entries, number, stored, FilledTable}
use Rattle.sequencing.proofs.Entries.{number_in, entry_is}
use Rattle.problem.specs.OfQueue.{problem}
use Rattle.problem.proofs.Queues.{none_permitted}
use Rattle.best_order.specs.Endings.{solved, best_plan, answer_of, buffer_of, table_of, LeavesTable}
use Rattle.best_order.specs.BestOrder.{BestPlan, BestOrder}
use Rattle.best_order.specs.Planning.{ending_on, Planning}
use Rattle.best_order.proofs.Checks.{through}
use Rattle.best_order.proofs.Endings.{solved_by_cost, reached}
use Rattle.best_order.proofs.Plans.{valid_plan, read_again, best_plan_lem}
use Rattle.best_order.proofs.Calls.{OfCall, cost_fills, cost_17, changes, plan_stands, bytes_behind, none_written}
use Rattle.best_order.proofs.Answers.{planning_of_call}

-- ---- the table

module _ (P : Problem) (table table' : List ℕ) (filled : FilledTable P table table') where
  entry_of : (L : ℕ) (k : List ℕ) → IsPair P L k → get_or table' (number P L k) 0 ≡ stored (value P L k)
  entry_of L k p = filled.entries_are (number P L k) ∙ rw (lt-ltb (number P L k) (entries P) (number_in P L k p)) (ap stored (entry_is P L k p))

  past : (n : ℕ) → entries P ≤ n → get_or table' n 0 ≡ get_or table n 0
  past n h = filled.entries_are n ∙ rw (le-ltb n (entries P) h)

-- ---- the written plan

module _ (q : Queue) (v : Valid q) (buffer buffer' : List ℕ) (h : 77 ≤ length buffer) where
  abbrev answer : Option ℕ → ℕ
  answer r = answer_number (answer_of (solved q r))

  otherwise : (r : Option ℕ) → plan_cost (problem q) ≡ r → buffer' ≡ buffer_of (solved q r) buffer → answer r ≢ 17
      → (n : ℕ) × (answer r ≡ 256 * n) × (n ≤ length buffer') × BestPlan (problem q) (read_plan (take n buffer'))
  otherwise none e holds other = absurd (other refl)
  otherwise (some c) e holds other =
      let s : List ℕ = message (best_plan q c) in
      let (fits, stands) = plan_stands buffer buffer' s (omega (arith, message_length (best_plan q c) (valid_plan q v c e))) holds in
      (length s, refl, fits, rw (stands, read_again q v c e) (best_plan_lem q v c e))

-- demand 3
best_order : (s table buffer table' buffer' : List ℕ)
    → LeavesTable (table_of (ending_on s table buffer)) table table' → buffer' ≡ buffer_of (ending_on s table buffer) buffer
    → BestOrder s table buffer table' buffer' (answer_number (answer_of (ending_on s table buffer)))
best_order s table buffer table' buffer' leaves holds a h k =
    let q : Queue = (read_queue s).queue in
    let r : Option ℕ = plan_cost (problem q) in
    let v : Valid q = accepted_valid s a in
    let e = reached s (length table) (length buffer) a k h in
    let filled : FilledTable (problem q) table table' = rw (e, cost_fills (solved_by_cost q) r) at leaves in
    let holds' : buffer' ≡ buffer_of (solved q r) buffer = rw e at holds in
    let of : OfCall s (solved q r) = rw e at (planning_of_call s (length table) (length buffer)) in
    rw e (record {
      none_permitted = through (cost_17 (solved_by_cost q) r) (none_permitted q v);
      otherwise = otherwise q v buffer buffer' k r refl holds';
      behind = bytes_behind buffer buffer' s (solved q r) of k holds';
      unwritten = none_written buffer buffer' (solved q r) holds';
      entry_of = entry_of (problem q) table table' filled;
      past = past (problem q) table table' filled;
    })

-- the planning contract
pub planning : {s table buffer table' buffer' : List ℕ} {answer : Answer}
    → answer ≡ answer_of (ending_on s table buffer) → LeavesTable (table_of (ending_on s table buffer)) table table'
    → buffer' ≡ buffer_of (ending_on s table buffer) buffer → Planning s table buffer table' buffer' answer
planning {s} {table} {buffer} {table'} {buffer'} e filled holds = record {
  answer_is = e;
  leaves_table = filled;
  leaves_buffer = holds;
  changes = rw e (changes s table buffer table' buffer' (ending_on s table buffer) (planning_of_call s (length table) (length buffer)) filled holds);
  best_order = rw e (best_order s table buffer table' buffer' filled holds);
}

-- the same of the answer as the contract names it
pub planning_named : {s table buffer table' buffer' : List ℕ} {answer : Answer} → Planning s table buffer table' buffer' answer
    → Planning s table buffer table' buffer' (answer_of (ending_on s table buffer))
planning_named w = rw w.answer_is at w
