-- Asked of messages: 01's cases A and G, a kind without jobs, and a refused one.
use Rattle.std.specs.Prelude.{List, [], ◌∷◌, ◌++◌, ◌≡◌, ℕ, ◌*◌}
use Rattle.refusal.specs.Answers.{entries_number, most_number}
use Rattle.queue.specs.Reading.{jobs, read_queue}
use Rattle.table_size.specs.Sizes.{table_size}

-- case A with other jobs: T, and the T kinds
abbrev jobs_of_a : List ℕ → List ℕ
jobs_of_a jobs =
    (0x51 ∷ 0x53 ∷ 0x01 ∷ 0x02 ∷ 0x01 ∷ 0x01 ∷ 0x00 ∷ 0x0A ∷ 0x0A ∷ 0x14 ∷ 0x32 ∷ 0x28 ∷ 0x1E ∷ 0x03 ∷ 0x01 ∷ 0x01 ∷ 0x3C ∷ 0x01 ∷ 0x3C ∷ []) ++ jobs

-- R + 256 × V of both questions
abbrev asked : List ℕ → ℕ × ℕ
asked message = (entries_number (table_size (read_queue message)), most_number (table_size (read_queue message)))

abbrev pub Examples : Type 0
Examples =
    -- A: 12 entries, and 7 states; G, no jobs: N entries, and no state; two jobs of kind 1, none of kind 2: 6 entries, and 2 states
    (asked (jobs_of_a (3 ∷ 1 ∷ 2 ∷ 1 ∷ [])) ≡ (256 * 12, 256 * 7))
    × (asked (jobs_of_a (0 ∷ [])) ≡ (256 * 2, 0))
    × (asked (jobs_of_a (2 ∷ 1 ∷ 1 ∷ [])) ≡ (256 * 6, 256 * 2))
    -- a job's kind over N: 13; a byte left over: 14
    × (asked (jobs_of_a (1 ∷ 3 ∷ [])) ≡ (13, 13))
    × (asked (jobs_of_a (0 ∷ 0 ∷ [])) ≡ (14, 14))
