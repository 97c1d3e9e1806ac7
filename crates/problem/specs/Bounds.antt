-- The number that bounds every value and every cost of a queue.
use Rattle.std.specs.Prelude.{ℕ, ◌*◌}

-- 1000 × 65535 × (1 + 2 + .. + 60): weights, gaps and jobs at 01's bounds
abbrev pub value_limit : ℕ
value_limit = 1000 * 65535 * 1830
