-- A plan that planning wrote is read as a plan, and its message as a queue.
-- Assumes nothing.
use Rattle.std.specs.Prelude.{Ok, Err}
use Prim.Native.Nat.{ℕ, ◌≤◌}
use mathlib.Core.List.{List}
use mathlib.Core.Option.{Option, none, some}
use mathlib.Core.Path.{◌≡◌, refl}
use native.Mathlib.Omega.{arith}
use lib.ListN.{length, take}
use Rattle.refusal.specs.Answers.{Verdict, Answer, Accepted}
use Rattle.number.specs.Inputs.{answered}
use Rattle.formats.proofs.Readings.{accepted_answer}
use Rattle.queue.specs.declared.Queue.{Queue}
use Rattle.queue.specs.Reading.{queue, read_queue}
use Rattle.queue_laws.proofs.Theorems.{reads as queue_reads, accepted_valid}
use Rattle.plan.specs.Reading.{plan, read_plan}
use Rattle.plan_laws.proofs.Theorems.{reads as plan_reads, message_length}
use Rattle.sequencing.specs.Recursion.{plan_cost}
use Rattle.sequencing.specs.Entries.{entries}
use Rattle.problem.specs.OfQueue.{problem}
use Rattle.best_order.specs.Endings.{Ending, refused, unplannable, planned, room_verdict, best_plan, solved, ending_of, ending, answer_of, buffer_of}
use Rattle.best_order.specs.Planning.{ending_on, Planning}
use Rattle.best_order.proofs.Calls.{plan_stands}
use Rattle.best_order.proofs.Endings.{message_refused, message_accepted, room_refused, room_accepted}
use Rattle.best_order.proofs.Plans.{valid_plan, read_again}
use Rattle.plan_lines.specs.Plans.{planned_by}

module _ (s : List ℕ) where
  abbrev q : Queue
  q = (read_queue s).queue

  -- an ending with a plan is of the message's queue, and its bytes are accepted
  abbrev Reached : Ending → Type 0
  Reached (refused r) = Unit {0}
  Reached (unplannable p) = Unit {0}
  Reached (planned p bytes) = ((read_queue s).verdict ≡ Accepted) × (q ≡ p) × (length bytes ≤ 77) × ((read_plan bytes).verdict ≡ Accepted)

  by_cost : (read_queue s).verdict ≡ Accepted → (c : Option ℕ) → plan_cost (problem q) ≡ c → Reached (solved q c)
  by_cost a none e = tt
  by_cost a (some c) e =
      let v = accepted_valid s a in
      (a, refl, message_length (best_plan q c) (valid_plan q v c e), rw (read_again q v c e) refl)

  module _ (n room : ℕ) where
    by_room : (read_queue s).verdict ≡ Accepted → (v : Verdict) → room_verdict (entries (problem q)) n room ≡ v → Reached (ending_of q n room)
    by_room a (Ok tt) e = rw (room_accepted q n room e) (by_cost a (plan_cost (problem q)) refl)
    by_room a (Err r) e = rw (room_refused q n room r e) tt

    by_message : (v : Verdict) → (read_queue s).verdict ≡ v → Reached (ending (read_queue s) n room)
    by_message (Ok tt) e = rw (message_accepted s n room e) (by_room e (room_verdict (entries (problem q)) n room) refl)
    by_message (Err r) e = rw (message_refused s n room r e) tt

  -- what both readers answer, which is all that a program has
  pub record Read (bytes : List ℕ) (e : Ending) : Type 0 where
    pub queue : answered (queue s 0) ≡ Ok q
    pub plan : answered (plan bytes 0) ≡ Ok (read_plan bytes).plan
    pub both : planned_by e ≡ Ok (record { queue = q; plan = (read_plan bytes).plan })

  planned_read : (buffer buffer' : List ℕ) (k : ℕ) → 77 ≤ length buffer → (e : Ending) → Reached e → ◌≡◌ {A = Answer} (Ok k) (answer_of e)
      → buffer' ≡ buffer_of e buffer → Read (take k buffer') e
  planned_read buffer buffer' k room (refused r) is a holds = cc
  planned_read buffer buffer' k room (unplannable p) is a holds = cc
  planned_read buffer buffer' k room (planned p bytes) (accepted, same, short, read) a holds =
      let size : k ≡ length bytes = cc in
      let stands : take k buffer' ≡ bytes = rw size (plan_stands buffer buffer' bytes (omega arith) holds).1 in
      rw stands (record { queue = accepted_answer queue_reads s accepted; plan = accepted_answer plan_reads bytes read; both = rw same refl })

-- where planning answers so many bytes
pub planning_read : {s table buffer table' buffer' : List ℕ} {k : ℕ} → Planning s table buffer table' buffer' (Ok k) → 77 ≤ length buffer
    → Read s (take k buffer') (ending_on s table buffer)
planning_read {s} {table} {buffer} {table'} {buffer'} {k} w room =
    let reached = by_message s (length table) (length buffer) (read_queue s).verdict refl in
    planned_read s buffer buffer' k room (ending_on s table buffer) reached w.answer_is w.leaves_buffer
