-- The running number stands at k.
use Rattle.next_states.proofs.Numbers.{running}
use Rattle.filling.proofs.Lent.next_entries.Goals as goal

pub load_next_by-requires : goal.load_next_by-requires
load_next_by-requires c = (_, (_, (running c.args.self.now.setup.now c.requires.left_at, (c.requires.steps, c.args.self.now.room))))

pub returns : goal.returns
returns c = c.load_next_by.ensures _ _ (running c.args.self.now.setup.now c.requires.left_at) c.requires.steps c.args.self.now.room
