-- 19 test by test: the shift, then the allowed places kind by kind.
-- Assumes nothing.
use Prim.Native.Nat.{◌+◌, ◌≤◌, ◌<◌}
use mathlib.Core.Bool.{false}
use mathlib.Core.Path.{◌≡◌}
use borrow.Author.Tests.{le-leb, lt-leb}
use Rattle.fields.specs.Fields.{all}
use Rattle.queue.specs.declared.Queue.{Queue}
use Rattle.queue.specs.Record.{windows}
use Rattle.splitting.specs.Covers.{covering, covers}

module _ (q : Queue) where
  pub shift_short : q.max_shift + 1 < q.jobs → covers q ≡ false
  unfolding covers
  shift_short h = rw (lt-leb q.jobs (q.max_shift + 1) h)

  -- with enough shift the places decide
  pub shift_enough : q.jobs ≤ q.max_shift + 1 → covers q ≡ all (covering q.jobs) (windows q)
  unfolding covers
  shift_enough h = rw (le-leb q.jobs (q.max_shift + 1) h)
