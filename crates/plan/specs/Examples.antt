-- The plans of 01's cases A and B, read and written; messages for each of the plan reader's refusals; records for the writer's.
use Rattle.std.specs.Prelude.{ℕ, ◌*◌, ◌^◌, ◌≡◌, replicate, Ok, Err}
use mathlib.Core.List.{List, [], ◌∷◌, ◌++◌}
use Rattle.refusal.specs.declared.Reason.TheVariants.{Opening, Ends, Groups, Edition, Goal, Jobs, Job, LeftOver, Buffer}
use Rattle.refusal.specs.Answers.{written_number, Accepted}
use Rattle.number.specs.Readers.{refused}
use Rattle.plan.specs.declared.Plan.{Plan}
use Rattle.plan.specs.Reading.{plan_of, as_reading, read_plan}
use Rattle.plan.specs.Writing.{message, judge, write_plan, written_plan}

-- case A
abbrev bytes_a : List ℕ
bytes_a = 0x51 ∷ 0x50 ∷ 0x01 ∷ 0x01 ∷ 0x46 ∷ 0x07 ∷ 0x03 ∷ 0x02 ∷ 0x01 ∷ 0x03 ∷ []

-- the record of A's plan: goal 1, cost 70, 7 kept, jobs 2 1 3
abbrev plan_a : Plan
plan_a = plan_of 1 70 7 3 (2 ∷ 1 ∷ 3 ∷ [])

-- case B: A with goal 2
abbrev bytes_b : List ℕ
bytes_b = 0x51 ∷ 0x50 ∷ 0x01 ∷ 0x02 ∷ 0xC8 ∷ 0x01 ∷ 0x07 ∷ 0x03 ∷ 0x01 ∷ 0x03 ∷ 0x02 ∷ []

-- the record of B's plan: goal 2, cost 200, 7 kept, jobs 1 3 2
abbrev plan_b : Plan
plan_b = plan_of 2 200 7 3 (1 ∷ 3 ∷ 2 ∷ [])

-- both plans both ways, then the refusals, by number
abbrev pub Examples : Type 0
Examples =
    (read_plan bytes_a ≡ record { verdict = Accepted; plan = plan_a })
    × (message plan_a ≡ bytes_a)
    × (read_plan bytes_b ≡ record { verdict = Accepted; plan = plan_b })
    × (message plan_b ≡ bytes_b)
    -- 1: no bytes, one byte, a queue's opening
    × (read_plan [] ≡ as_reading (refused Opening))
    × (read_plan (0x51 ∷ []) ≡ as_reading (refused Opening))
    × (read_plan (0x51 ∷ 0x53 ∷ 0x01 ∷ 0x01 ∷ 0x46 ∷ 0x07 ∷ 0x00 ∷ []) ≡ as_reading (refused Opening))
    -- 2: the bytes end in the cost
    × (read_plan (0x51 ∷ 0x50 ∷ 0x01 ∷ 0x01 ∷ 0xC8 ∷ []) ≡ as_reading (refused Ends))
    -- 3: an edition of two groups that ends in 00 is not judged
    × (read_plan (0x51 ∷ 0x50 ∷ 0x81 ∷ 0x00 ∷ []) ≡ as_reading (refused Groups))
    -- 4
    × (read_plan (0x51 ∷ 0x50 ∷ 0x02 ∷ []) ≡ as_reading (refused Edition))
    -- 6
    × (read_plan (0x51 ∷ 0x50 ∷ 0x01 ∷ 0x03 ∷ []) ≡ as_reading (refused Goal))
    -- 12: 61 jobs, before any job is read
    × (read_plan (0x51 ∷ 0x50 ∷ 0x01 ∷ 0x01 ∷ 0x46 ∷ 0x07 ∷ 0x3D ∷ []) ≡ as_reading (refused Jobs))
    -- 18: a job twice; job 0; job 5 of 2, where the bytes end too early
    × (read_plan (0x51 ∷ 0x50 ∷ 0x01 ∷ 0x01 ∷ 0x46 ∷ 0x07 ∷ 0x02 ∷ 0x01 ∷ 0x01 ∷ []) ≡ as_reading (refused Job))
    × (read_plan (0x51 ∷ 0x50 ∷ 0x01 ∷ 0x01 ∷ 0x46 ∷ 0x07 ∷ 0x02 ∷ 0x00 ∷ 0x01 ∷ []) ≡ as_reading (refused Job))
    × (read_plan (0x51 ∷ 0x50 ∷ 0x01 ∷ 0x01 ∷ 0x46 ∷ 0x07 ∷ 0x02 ∷ 0x05 ∷ []) ≡ as_reading (refused Job))
    -- 14: no jobs, and a byte
    × (read_plan (0x51 ∷ 0x50 ∷ 0x01 ∷ 0x01 ∷ 0x46 ∷ 0x07 ∷ 0x00 ∷ 0x00 ∷ []) ≡ as_reading (refused LeftOver))
    -- writing: 3 before 12, 15 last
    × (judge (plan_of 1 (2 ^ 42) 7 61 []) ≡ Err Groups)
    × (judge (plan_of 1 70 (2 ^ 42) 61 []) ≡ Err Groups)
    × (judge (plan_of 1 70 7 61 []) ≡ Err Jobs)
    × (judge (plan_of 3 (2 ^ 42) 7 61 []) ≡ Err Goal)
    × (judge (plan_of 1 70 7 2 (1 ∷ 3 ∷ [])) ≡ Err Job)
    × (write_plan plan_a 77 ≡ Ok 10)
    × (write_plan plan_a 76 ≡ Err Buffer)
    × (write_plan (plan_of 1 70 7 2 (1 ∷ 1 ∷ [])) 76 ≡ Err Job)
    -- the answers' numbers; a refused record leaves every byte, a written one those past its message
    × (written_number (write_plan plan_a 77) ≡ 256 * 10)
    × (written_number (write_plan (plan_of 1 70 7 2 (1 ∷ 1 ∷ [])) 77) ≡ 18)
    × (written_plan (plan_of 1 70 7 2 (1 ∷ 1 ∷ [])) (replicate 77 0xAA) ≡ replicate 77 0xAA)
    × (written_plan plan_a (replicate 77 0xAA) ≡ bytes_a ++ replicate 67 0xAA)
