-- 01's place rule, over a queue record.
use Rattle.std.specs.Prelude.{Bool, ◌&&◌, ℕ, ◌+◌, ◌-◌, min, max, leb}
use Rattle.queue.specs.declared.Queue.{Queue}
use Rattle.queue.specs.Record.{first_place, last_place, kind}

-- 01's |p − i|: of the two differences the one that would be negative is 0
abbrev pub distance : ℕ → ℕ → ℕ
distance p i = (p - i) + (i - p)

-- 01's place rule: job i, of kind j, at place p has |p − i| ≤ m and a_j ≤ p ≤ b_j
unfoldable pub allowed : Queue → ℕ → ℕ → Bool
allowed q i p =
    let j : ℕ = kind q i in
    leb (distance p i) q.max_shift && leb (first_place q j) p && leb p (last_place q j)

-- the first place that the rule permits to job i: a_j, and no earlier than the shift allows
unfoldable pub earliest : Queue → ℕ → ℕ
earliest q i = max (first_place q (kind q i)) (i - q.max_shift)

-- the last: b_j, and no later than the shift allows
unfoldable pub latest : Queue → ℕ → ℕ
latest q i = min (last_place q (kind q i)) (i + q.max_shift)
