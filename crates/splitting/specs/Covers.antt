-- 02's refusal 19, by the shift, the allowed places and T.
use Rattle.std.specs.Prelude.{Bool, ◌&&◌, ℕ, ◌+◌, leb}
use Rattle.fields.specs.Fields.{within, all}
use Rattle.queue.specs.declared.Queue.{Queue}
use Rattle.queue.specs.Record.{windows}
use Rattle.sequencing.specs.Lists.{upto}

-- allowed places (a_j, b_j) cover 1 to T: each place from 1 to T is one of them
abbrev pub covering : (t : ℕ) → ℕ × ℕ → Bool
covering t w = all (within w.0 w.1) (upto t)

-- no 19: the shift plus 1 is not under T, and the allowed places of each of the N kinds cover 1 to T
unfoldable pub covers : Queue → Bool
covers q = leb q.jobs (q.max_shift + 1) && all (covering q.jobs) (windows q)
