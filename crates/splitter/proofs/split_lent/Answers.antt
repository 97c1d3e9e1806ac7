-- 15 or 16, or what splitting finds.
use Rattle.std.proofs.Common.{arith, sym, T as Is}
use Rattle.splitting.specs.Covers.{covers}
use Rattle.best_order.proofs.Endings.{room_enough}
use Rattle.splitter.proofs.split_lent.Goals as goal

pub invariant_of-lent : goal.invariant_of-lent
invariant_of-lent c =
    let e = c.prepare-setup.ensures in
    let room = room_enough _ _ _ (sym c.in_ok-judge_room.ensures) in
    let needed = rw e at c.needed_entries.ensures in
    record { room = rw e (omega (arith, needed, room.1)) }

pub make_split-requires : goal.make_split-requires
make_split-requires c =
    let covering : Is (covers c.args.shared.queue.queue) = rw c.args.shared.covered tt in
    rw c.prepare-setup.ensures (covering, (c.args.shared.second_in, (room_enough _ _ _ (sym c.in_ok-judge_room.ensures)).0))
