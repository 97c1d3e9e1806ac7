-- Planning ends as a call does, and its answer fits 64 bits.
-- Assumes nothing.
use Prim.Native.Nat.{ℕ, ◌^◌, ◌<◌}
use mathlib.Core.List.{List}
use mathlib.Core.Option.{Option, none, some}
use mathlib.Core.Path.{◌≡◌, refl}
use native.Mathlib.Omega.{arith}
use Rattle.refusal.specs.Answers.{answer_number, Accepted}
use Rattle.refusal.proofs.Reasons.{of_message_needed}
use Rattle.queue.specs.declared.Queue.{Queue}
use Rattle.queue.specs.Record.{Valid}
use Rattle.queue.specs.Reading.{read_queue}
use Rattle.queue_laws.proofs.Theorems.{accepted_valid, queue_refusal, queue_of_message}
use Rattle.plan_laws.proofs.Theorems.{message_length}
use Rattle.sequencing.specs.Recursion.{plan_cost}
use Rattle.sequencing.specs.Entries.{entries}
use Rattle.problem.specs.OfQueue.{problem}
use Rattle.problem.proofs.Sizes.{entries_small}
use Rattle.best_order.specs.Endings.{Ending, refused, if_accepted, room_verdict, best_plan, solved, ending_of, ending, answer_of}
use Rattle.best_order.proofs.Calls.{OfCall, answer_fits}
use Rattle.best_order.proofs.Checks.{check_of_call}
use Rattle.best_order.proofs.Endings.{room_refusals}
use Rattle.best_order.proofs.Plans.{valid_plan}

module _ (s : List ℕ) where
  -- any call does that ends so once the message is accepted
  pub message_of_call : (e : Ending) → ((read_queue s).verdict ≡ Accepted → OfCall s e) → OfCall s (if_accepted (read_queue s).verdict e)
  message_of_call e = check_of_call s (read_queue s).verdict e
      (λ r h. let own = queue_of_message r (queue_refusal s r h) in (own.not_order, omega (arith, of_message_needed r own)))

  -- and once there is room for a plan and the table
  pub room_of_call : (q : Queue) → Valid q → (n room : ℕ) (e : Ending) → OfCall s e
      → OfCall s (if_accepted (room_verdict (entries (problem q)) n room) e)
  room_of_call q v n room e of = check_of_call s (room_verdict (entries (problem q)) n room) e
      (room_refusals (entries (problem q)) n room (λ r. OfCall s (refused r))
      (λ _. (omega arith, omega arith)) (λ _ _. (omega arith, omega (arith, entries_small q v))))
      (λ _. of)

  pub planning_of_call : (n room : ℕ) → OfCall s (ending (read_queue s) n room)
  unfolding ending ending_of
  planning_of_call n room =
      let q : Queue = (read_queue s).queue in
      message_of_call (ending_of q n room) (λ h. room_of_call q (accepted_valid s h) n room (solved q (plan_cost (problem q))) (go h (plan_cost (problem q)) refl))
    where
      go : (read_queue s).verdict ≡ Accepted → (r : Option ℕ) → plan_cost (problem (read_queue s).queue) ≡ r → OfCall s (solved (read_queue s).queue r)
      go h none e = refl
      go h (some c) e = message_length (best_plan _ c) (valid_plan (read_queue s).queue (accepted_valid s h) c e)

  pub planning_fits : (n room : ℕ) → answer_number (answer_of (ending (read_queue s) n room)) < 2 ^ 64
  planning_fits n room = answer_fits s (ending (read_queue s) n room) (planning_of_call n room)
