-- Either number of a table's size fits.
use Rattle.std.proofs.Common.{rules}
use Rattle.refusal.specs.Answers.{answer_number}
use Rattle.kippertarn.proofs.Numbers.{size_number}
use Rattle.kippertarn.proofs.kippertarn_table_entries.Goals as goal

pub answer_number-requires : goal.answer_number-requires
answer_number-requires c = size_number _ (answer_number c.map.result) c.size_table-sizes.ensures.answer_is (search rules)
