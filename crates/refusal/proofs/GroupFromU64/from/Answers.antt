-- Each arm's tests give the number's range.
use Rattle.std.proofs.Common.{◌≡◌, arith}
use Rattle.refusal.specs.Reasons.{number_group}
use Rattle.refusal.proofs.Groups.{in_message, in_contents, in_room, none_low, none_high}
use Rattle.refusal.proofs.GroupFromU64.from.Goals as goal

pub returns-in-17 : goal.returns-in-17
unfolding number_group
returns-in-17 c = rw c.in-17.is

pub returns-in-5-to-13 : goal.returns-in-5-to-13
returns-in-5-to-13 c = in_contents c.args.number (omega arith) (omega arith)

pub returns-in-15-to-16 : goal.returns-in-15-to-16
returns-in-15-to-16 c = in_room c.args.number (omega arith) (omega arith)

pub returns-in_default : goal.returns-in_default
returns-in_default c = none_low c.args.number (omega arith)

pub returns-in_default-2 : goal.returns-in_default-2
returns-in_default-2 c = none_high c.args.number (omega arith)

pub returns-in-1-to-4 : goal.returns-in-1-to-4
unfolding number_group
returns-in-1-to-4 c = let e : c.args.number ≡ 14 = omega arith in rw e

pub returns-in-1-to-4-2 : goal.returns-in-1-to-4-2
returns-in-1-to-4-2 c = in_message c.args.number (omega arith) (omega arith)
