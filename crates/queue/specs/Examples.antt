-- The queue messages of 01's cases A, G and I, read and written; a message for each of the reader's refusals; records for the writer's.
use Rattle.std.specs.Prelude.{ℕ, ◌+◌, ◌*◌, ◌≡◌, drop, take, replicate, Ok, Err}
use mathlib.Core.List.{List, [], ◌∷◌, ◌++◌}
use Rattle.refusal.specs.declared.Reason.TheVariants.{Opening, Ends, Groups, Edition, Kinds, Goal, Shift, Start, Gap, Pupils, Places, Jobs, JobKind, LeftOver, Buffer}
use Rattle.refusal.specs.Answers.{written_number, Accepted}
use Rattle.number.specs.Readers.{refused}
use Rattle.queue.specs.declared.Queue.{Queue}
use Rattle.queue.specs.Reading.{head_of, with_jobs, accepted, as_reading, read_queue}
use Rattle.queue.specs.Writing.{message, judge, write_queue, written_queue}

-- case A's bytes
abbrev bytes_a : List ℕ
bytes_a =
    0x51 ∷ 0x53 ∷ 0x01 ∷ 0x02 ∷ 0x01 ∷ 0x01 ∷ 0x00 ∷ 0x0A ∷ 0x0A ∷ 0x14 ∷ 0x32 ∷ 0x28 ∷ 0x1E ∷ 0x03 ∷ 0x01 ∷ 0x01 ∷ 0x3C ∷ 0x01 ∷ 0x3C ∷ 0x03 ∷ 0x01 ∷ 0x02 ∷ 0x01 ∷ []

-- case A: N 2, m 1, cold, rows 10 10 / 20 50 / 40 30, pupils 3 and 1, all places, kinds 1 2 1
abbrev queue_of : ℕ → ℕ → ℕ → List ℕ → Queue
queue_of n goal t kinds =
    with_jobs (head_of (record { kinds = n; goal = goal; max_shift = 1; start = 0 }) ((10 ∷ 10 ∷ []) ∷ (20 ∷ 50 ∷ []) ∷ (40 ∷ 30 ∷ []) ∷ []) (3 ∷ 1 ∷ []) ((1, 60) ∷ (1, 60) ∷ []))
    t kinds

-- A's record with other numbers: shift, start, gap(0, 1), w_1, a_1 and b_1, the kinds
abbrev record_of : ℕ → ℕ → ℕ → ℕ → ℕ × ℕ → List ℕ → Queue
record_of shift start gap weight window kinds =
    with_jobs (head_of (record { kinds = 2; goal = 1; max_shift = shift; start = start }) ((gap ∷ 10 ∷ []) ∷ (20 ∷ 50 ∷ []) ∷ (40 ∷ 30 ∷ []) ∷ []) (weight ∷ 1 ∷ []) (window ∷ (1, 60) ∷ []))
    3 kinds

-- A with the byte at a position put otherwise
abbrev with : ℕ → List ℕ → List ℕ
with i bytes = take i bytes_a ++ bytes ++ drop (i + 1) bytes_a

-- G: A with no jobs
abbrev bytes_g : List ℕ
bytes_g = take 19 bytes_a ++ (0x00 ∷ [])

-- A, B and G both ways or read, case I, then the refusals, by number
abbrev pub Examples : Type 0
Examples =
    (read_queue bytes_a ≡ accepted (queue_of 2 1 3 (1 ∷ 2 ∷ 1 ∷ [])))
    × (message (queue_of 2 1 3 (1 ∷ 2 ∷ 1 ∷ [])) ≡ bytes_a)
    × (read_queue (with 4 (0x02 ∷ [])) ≡ accepted (queue_of 2 2 3 (1 ∷ 2 ∷ 1 ∷ [])))
    × (read_queue bytes_g ≡ accepted (queue_of 2 1 0 []))
    × (message (queue_of 2 1 0 []) ≡ bytes_g)
    -- I, as the first gap: 80 00 gives 3, 81 at the end 2, FF FF 03 is accepted, 80 80 04 reads as 02's never, 81 80 04 gives 9
    × (read_queue (with 7 (0x80 ∷ 0x00 ∷ [])) ≡ as_reading (refused Groups))
    × (read_queue (take 7 bytes_a ++ (0x81 ∷ [])) ≡ as_reading (refused Ends))
    × ((read_queue (with 7 (0xFF ∷ 0xFF ∷ 0x03 ∷ []))).queue.gaps ≡ 65535 ∷ drop 1 (queue_of 2 1 0 []).gaps)
    × (read_queue (with 7 (0x80 ∷ 0x80 ∷ 0x04 ∷ [])) ≡ accepted (record_of 1 0 65536 3 (1, 60) (1 ∷ 2 ∷ 1 ∷ [])))
    × (read_queue (with 7 (0x81 ∷ 0x80 ∷ 0x04 ∷ [])) ≡ as_reading (refused Gap))
    -- 1: no bytes, one byte, a plan's opening
    × (read_queue [] ≡ as_reading (refused Opening))
    × (read_queue (0x51 ∷ []) ≡ as_reading (refused Opening))
    × (read_queue (with 1 (0x50 ∷ [])) ≡ as_reading (refused Opening))
    -- 4 to 8
    × (read_queue (with 2 (0x02 ∷ [])) ≡ as_reading (refused Edition))
    × (read_queue (with 3 (0x06 ∷ [])) ≡ as_reading (refused Kinds))
    × (read_queue (with 4 (0x00 ∷ [])) ≡ as_reading (refused Goal))
    × (read_queue (with 5 (0x3D ∷ [])) ≡ as_reading (refused Shift))
    × (read_queue (with 6 (0x03 ∷ [])) ≡ as_reading (refused Start))
    -- 10 and 11: a_1 = 0 is judged after b_1 was read
    × (read_queue (with 13 (0xE9 ∷ 0x07 ∷ [])) ≡ as_reading (refused Pupils))
    × (read_queue (with 15 (0x00 ∷ [])) ≡ as_reading (refused Places))
    × (read_queue (take 15 bytes_a ++ (0x00 ∷ [])) ≡ as_reading (refused Ends))
    -- 12 before any job, 13, 14
    × (read_queue (take 19 bytes_a ++ (0x3D ∷ [])) ≡ as_reading (refused Jobs))
    × (read_queue (with 22 (0x03 ∷ [])) ≡ as_reading (refused JobKind))
    × (read_queue (bytes_a ++ (0x00 ∷ [])) ≡ as_reading (refused LeftOver))
    -- writing: the record before the buffer
    × (write_queue (queue_of 2 1 3 (1 ∷ 2 ∷ 1 ∷ [])) 178 ≡ Ok 23)
    × (write_queue (queue_of 2 1 3 (1 ∷ 2 ∷ 1 ∷ [])) 177 ≡ Err Buffer)
    × (write_queue (queue_of 2 7 3 (1 ∷ 2 ∷ 1 ∷ [])) 0 ≡ Err Goal)
    -- the answers' numbers; a refused record leaves every byte, a written one those past its message
    × (written_number (write_queue (queue_of 2 1 3 (1 ∷ 2 ∷ 1 ∷ [])) 178) ≡ 256 * 23)
    × (written_number (write_queue (queue_of 2 7 3 (1 ∷ 2 ∷ 1 ∷ [])) 178) ≡ 6)
    × (written_queue (queue_of 2 7 3 (1 ∷ 2 ∷ 1 ∷ [])) (replicate 178 0xAA) ≡ replicate 178 0xAA)
    × (written_queue (queue_of 2 1 3 (1 ∷ 2 ∷ 1 ∷ [])) (replicate 178 0xAA) ≡ bytes_a ++ replicate 155 0xAA)
    -- a record at its bounds, then each bound passed by one, 5 to 13
    × (judge (record_of 60 2 65536 1000 (60, 60) (1 ∷ 2 ∷ 2 ∷ [])) ≡ Accepted)
    × (judge (queue_of 6 1 3 (1 ∷ 2 ∷ 1 ∷ [])) ≡ Err Kinds)
    × (judge (queue_of 2 3 3 (1 ∷ 2 ∷ 1 ∷ [])) ≡ Err Goal)
    × (judge (record_of 61 0 10 3 (1, 60) (1 ∷ 2 ∷ 1 ∷ [])) ≡ Err Shift)
    × (judge (record_of 1 3 10 3 (1, 60) (1 ∷ 2 ∷ 1 ∷ [])) ≡ Err Start)
    × (judge (record_of 1 0 65537 3 (1, 60) (1 ∷ 2 ∷ 1 ∷ [])) ≡ Err Gap)
    × (judge (record_of 1 0 10 1001 (1, 60) (1 ∷ 2 ∷ 1 ∷ [])) ≡ Err Pupils)
    × (judge (record_of 1 0 10 3 (0, 60) (1 ∷ 2 ∷ 1 ∷ [])) ≡ Err Places)
    × (judge (record_of 1 0 10 3 (1, 61) (1 ∷ 2 ∷ 1 ∷ [])) ≡ Err Places)
    × (judge (queue_of 2 1 61 []) ≡ Err Jobs)
    × (judge (record_of 1 0 10 3 (1, 60) (1 ∷ 2 ∷ 3 ∷ [])) ≡ Err JobKind)
    × (judge (record_of 1 0 10 3 (1, 60) (1 ∷ 2 ∷ 0 ∷ [])) ≡ Err JobKind)
