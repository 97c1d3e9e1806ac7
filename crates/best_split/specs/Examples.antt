-- 01's case A, also with successions forbidden, as calls of splitting on bytes: the answer, what becomes of the table, and the buffer then.
use Rattle.std.specs.Prelude.{ℕ, ◌+◌, ◌*◌, ◌≡◌, take, replicate}
use mathlib.Core.List.{List, [], ◌∷◌}
use Rattle.refusal.specs.Answers.{answer_number}
use Rattle.queue.specs.Reading.{jobs, read_queue}
use Rattle.best_order.specs.Endings.{Ending, ending, answer_of, buffer_of, TableEnding, untouched, filled_for, table_of}
use Rattle.best_split.specs.Endings.{split_ending}

-- A, but for its shift
abbrev A : (shift : ℕ) → List ℕ
A m =
    0x51 ∷ 0x53 ∷ 0x01 ∷ 0x02 ∷ 0x01 ∷ m ∷ 0x00 ∷ 0x0A ∷ 0x0A ∷ 0x14 ∷ 0x32 ∷ 0x28 ∷ 0x1E
    ∷ 0x03 ∷ 0x01 ∷ 0x01 ∷ 0x3C ∷ 0x01 ∷ 0x3C ∷ 0x03 ∷ 0x01 ∷ 0x02 ∷ 0x01 ∷ []

-- A at shift 4 with rows 1 and 2 all never, but for its jobs: none may follow another
abbrev apart : (jobs : List ℕ) → List ℕ
apart jobs =
    0x51 ∷ 0x53 ∷ 0x01 ∷ 0x02 ∷ 0x01 ∷ 0x04 ∷ 0x00 ∷ 0x0A ∷ 0x0A
    ∷ 0x80 ∷ 0x80 ∷ 0x04 ∷ 0x80 ∷ 0x80 ∷ 0x04 ∷ 0x80 ∷ 0x80 ∷ 0x04 ∷ 0x80 ∷ 0x80 ∷ 0x04
    ∷ 0x03 ∷ 0x01 ∷ 0x01 ∷ 0x3C ∷ 0x01 ∷ 0x3C ∷ jobs

-- with a job of kind 1 and one of kind 2
abbrev two : List ℕ
two = apart (0x02 ∷ 0x01 ∷ 0x02 ∷ [])

-- and with a third job, of kind 1
abbrev three : List ℕ
three = apart (0x03 ∷ 0x01 ∷ 0x02 ∷ 0x01 ∷ [])

-- R + 256 × V, what becomes of a table of n entries, and a buffer of so many nines then; s is the second cutter's start kind
abbrev left : List ℕ → (s n room : ℕ) → ℕ × TableEnding × List ℕ
left bytes s n room =
    let e : Ending = split_ending (read_queue bytes) s n room in
    (answer_number (answer_of e), table_of e, buffer_of e (replicate room 9))

-- planning for one cutter: R + 256 × V, and what becomes of the table
abbrev alone : List ℕ → (n room : ℕ) → ℕ × TableEnding
alone bytes n room =
    let e : Ending = ending (read_queue bytes) n room in
    (answer_number (answer_of e), table_of e)

pub record Examples : Type 0 where
  -- with every place permitted, the second cutter cold: cost 30, job 2 on the first, jobs 1 and 3 on the second
  pub cold : left (A 4) 0 12 77
      ≡ (256 * 10, filled_for (read_queue (A 4)).queue, 0x51 ∷ 0x32 ∷ 0x01 ∷ 0x01 ∷ 0x1E ∷ 0x01 ∷ 0x02 ∷ 0x02 ∷ 0x01 ∷ 0x03 ∷ replicate 67 9)
  -- the second cutter after kind 2 = N, at the least shift without 19: jobs 1 and 3 on the first, job 2 on the second
  pub after_2 : left (A 2) 2 12 77
      ≡ (256 * 10, filled_for (read_queue (A 2)).queue, 0x51 ∷ 0x32 ∷ 0x01 ∷ 0x01 ∷ 0x1E ∷ 0x02 ∷ 0x01 ∷ 0x03 ∷ 0x01 ∷ 0x02 ∷ replicate 67 9)
  -- one byte short it is no message, whatever else is wrong
  pub cut : left (take 22 (A 1)) 3 11 76 ≡ (2, untouched, replicate 76 9)
  -- 19 for three jobs at shift 1, before 20
  pub uncovered : left (A 1) 2 12 77 ≡ (19, untouched, replicate 77 9)
  pub uncovered_first : left (A 1) 3 11 76 ≡ (19, untouched, replicate 76 9)
  -- 20 for a second start over N, before 15
  pub second_start : left (A 4) 3 12 77 ≡ (20, untouched, replicate 77 9)
  pub second_start_first : left (A 4) 3 11 76 ≡ (20, untouched, replicate 76 9)
  -- 15 before 16, and 16 with the 12 entries that are needed
  pub short : left (A 4) 2 11 76 ≡ (15, untouched, replicate 76 9)
  pub eleven : left (A 4) 2 11 77 ≡ (16 + 256 * 12, untouched, replicate 77 9)
  -- two jobs, neither of which may follow the other: 17 for one cutter, a job for each of two, and the table is filled alike
  pub two_alone : alone two 8 77 ≡ (17, filled_for (read_queue two).queue)
  pub two_apart : left two 0 8 77
      ≡ (256 * 9, filled_for (read_queue two).queue, 0x51 ∷ 0x32 ∷ 0x01 ∷ 0x01 ∷ 0x0A ∷ 0x01 ∷ 0x02 ∷ 0x01 ∷ 0x01 ∷ replicate 68 9)
  -- 17 where the second cutter is warm, or with a third job; 15 and 16 before it
  pub two_warm : left two 2 8 77 ≡ (17, filled_for (read_queue two).queue, replicate 77 9)
  pub three_apart : left three 0 12 77 ≡ (17, filled_for (read_queue three).queue, replicate 77 9)
  pub three_short : left three 0 11 76 ≡ (15, untouched, replicate 76 9)
  pub three_eleven : left three 0 11 77 ≡ (16 + 256 * 12, untouched, replicate 77 9)
