-- Queues in which nothing is forbidden.
use Rattle.std.specs.Prelude.{◌≢◌, ℕ, ◌≤◌}
use Rattle.queue.specs.declared.Queue.{Queue}
use Rattle.queue.specs.Record.{gap}

-- no number of gap rows 0 to N is 02's never
abbrev pub NoNever : Queue → Type 0
NoNever q = (i j : ℕ) → i ≤ q.kinds → 1 ≤ j → j ≤ q.kinds → gap q i j ≢ 65536
