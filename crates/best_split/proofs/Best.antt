-- S-1's promise and the splitting contract, from what splitting answers and leaves.
-- Assumes nothing.
use Prim.Native.Nat.{ℕ, ◌*◌, ◌≤◌}
use mathlib.Core.List.{List}
use mathlib.Core.Logic.{◌≢◌}
use mathlib.Core.Option.{Option, none, some}
use mathlib.Core.Path.{◌≡◌, refl}
use native.Mathlib.Omega.{arith}
use lib.ListN.{length, take}
use Rattle.refusal.specs.Answers.{answer_number, Answer}
use Rattle.queue.specs.declared.Queue.{Queue}
use Rattle.queue.specs.Record.{Valid}
use Rattle.queue.specs.Reading.{read_queue}
use Rattle.queue_laws.proofs.Theorems.{accepted_valid}
use Rattle.split_plan.specs.declared.SplitPlan.{SplitPlan}
use Rattle.split_plan.specs.Writing.{message}
use Rattle.sequencing.specs.Recursion.{plan_cost}
use Rattle.sequencing.specs.Entries.{FilledTable}
use Rattle.problem.specs.OfQueue.{problem}
use Rattle.problem.proofs.Rule.{proper}
use Rattle.splitting.specs.Taken.{taken_cost}
use Rattle.splitting.proofs.Best.{no_split_lem}
use Rattle.best_order.specs.Endings.{answer_of, buffer_of, table_of, LeavesTable}
use Rattle.best_order.proofs.Checks.{through}
use Rattle.best_order.proofs.Calls.{OfCall, cost_fills, cost_17, changes, plan_stands, bytes_behind, none_written}
use Rattle.best_order.proofs.Endings.{solved_by_cost, reached as plan-reached}
use Rattle.best_split.specs.Endings.{best_split, divided, split_ending_on}
use Rattle.best_split.specs.BestSplit.{BestSplitPlan, BestSplit}
use Rattle.best_split.specs.Splitting.{Splitting}
use Rattle.best_split.proofs.Endings.{divided_by_cost, reached}
use Rattle.best_split.proofs.Plans.{split_short, has_best_split as best_plan_lem}
use Rattle.best_split.proofs.Answers.{splitting_of_call}

-- ---- the written split plan

module _ (q : Queue) (v : Valid q) (s : ℕ) (h : s ≤ q.kinds) (buffer buffer' : List ℕ) (room : 77 ≤ length buffer) where
  abbrev answer : Option ℕ → ℕ
  answer r = answer_number (answer_of (divided q s r))

  otherwise : (r : Option ℕ) → taken_cost (problem q) s ≡ r → buffer' ≡ buffer_of (divided q s r) buffer → answer r ≢ 17
      → (n : ℕ) × (plan : SplitPlan) × (answer r ≡ 256 * n) × (n ≤ length buffer') × (take n buffer' ≡ message plan) × BestSplitPlan (problem q) s plan
  otherwise none e holds other = absurd (other refl)
  otherwise (some c) e holds other =
      let plan : SplitPlan = best_split q s c in
      let (fits, stands) = plan_stands buffer buffer' (message plan) (omega (arith, split_short q v s c e h)) holds in
      (length (message plan), plan, refl, fits, stands, best_plan_lem q v s c e h)

-- S-1's promise
has_best_split : (bytes : List ℕ) (s : ℕ) (table buffer table' buffer' : List ℕ)
    → LeavesTable (table_of (split_ending_on bytes s table buffer)) table table' → buffer' ≡ buffer_of (split_ending_on bytes s table buffer) buffer
    → BestSplit bytes s table buffer table' buffer' (answer_number (answer_of (split_ending_on bytes s table buffer)))
has_best_split bytes s table buffer table' buffer' leaves holds a c l h k =
    let q : Queue = (read_queue bytes).queue in
    let r : Option ℕ = taken_cost (problem q) s in
    let v : Valid q = accepted_valid bytes a in
    let e = reached bytes s (length table) (length buffer) a c l k h in
    let filled : FilledTable (problem q) table table' = rw (e, cost_fills (divided_by_cost q s) r) at leaves in
    let holds' : buffer' ≡ buffer_of (divided q s r) buffer = rw e at holds in
    let of : OfCall bytes (divided q s r) = rw e at (splitting_of_call bytes s (length table) (length buffer)) in
    rw e (record {
      none_left = through (cost_17 (divided_by_cost q s) r) (no_split_lem (problem q) (proper q v) s);
      otherwise = otherwise q v s l buffer buffer' k r refl holds';
      behind = bytes_behind buffer buffer' bytes (divided q s r) of k holds';
      unwritten = none_written buffer buffer' (divided q s r) holds';
      as_planned = rw (plan-reached bytes (length table) (length buffer) a k h, cost_fills (solved_by_cost q) (plan_cost (problem q))) filled;
    })

-- the splitting contract
pub splitting : {bytes : List ℕ} {s : ℕ} {table buffer table' buffer' : List ℕ} {answer : Answer}
    → answer ≡ answer_of (split_ending_on bytes s table buffer) → LeavesTable (table_of (split_ending_on bytes s table buffer)) table table'
    → buffer' ≡ buffer_of (split_ending_on bytes s table buffer) buffer → Splitting bytes s table buffer table' buffer' answer
splitting {bytes} {s} {table} {buffer} {table'} {buffer'} e leaves holds = record {
  answer_is = e;
  leaves_table = leaves;
  leaves_buffer = holds;
  changes = rw e (changes bytes table buffer table' buffer' (split_ending_on bytes s table buffer)
      (splitting_of_call bytes s (length table) (length buffer)) leaves holds);
  has_best_split = rw e (has_best_split bytes s table buffer table' buffer' leaves holds);
}

-- the same of the answer as the contract names it
pub splitting_named : {bytes : List ℕ} {s : ℕ} {table buffer table' buffer' : List ℕ} {answer : Answer} → Splitting bytes s table buffer table' buffer' answer
    → Splitting bytes s table buffer table' buffer' (answer_of (split_ending_on bytes s table buffer))
splitting_named w = rw w.answer_is at w
