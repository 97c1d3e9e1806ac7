-- The number of the reader's answer.
use Rattle.std.proofs.Common.{rules, ◌∙◌}
use Rattle.refusal.specs.Answers.{answer_number}
use Rattle.kippertarn.proofs.Numbers.{queue_number}
use Rattle.kippertarn.proofs.kippertarn_check_queue.Goals as goal

pub answer_number-requires : goal.answer_number-requires
answer_number-requires c = (queue_number _ (answer_number c.map-accepted.result) c.read_queue.ensures (search rules)).0

pub returns : goal.returns
returns c = c.answer_number.ensures ∙ (queue_number _ (answer_number c.map-accepted.result) c.read_queue.ensures (search rules)).1
