-- 01's small queues A to H, and A with nevers, as calls of planning on bytes: the answer, and the bytes of the plan, or what a refusal leaves.
use Rattle.std.specs.Prelude.{ℕ, ◌+◌, ◌-◌, ◌*◌, ◌^◌, ◌≡◌, length, take, drop, replicate}
use mathlib.Core.List.{List, [], ◌∷◌, ◌++◌}
use Rattle.refusal.specs.Answers.{answer_number}
use Rattle.fields.specs.Lists.{tabulate}
use Rattle.queue.specs.Reading.{read_queue}
use Rattle.plan.specs.Writing.{message}
use Rattle.sequencing.specs.Entries.{filled_entry}
use Rattle.problem.specs.OfQueue.{problem}
use Rattle.best_order.specs.Endings.{Ending, ending, answer_of, buffer_of, TableEnding, untouched, filled_for, table_of}

-- A, but for its goal, shift, a_1 and a_2
abbrev like_a : (goal shift a₁ a₂ : ℕ) → List ℕ
like_a goal m a₁ a₂ =
    0x51 ∷ 0x53 ∷ 0x01 ∷ 0x02 ∷ goal ∷ m ∷ 0x00 ∷ 0x0A ∷ 0x0A ∷ 0x14 ∷ 0x32 ∷ 0x28 ∷ 0x1E ∷ 0x03 ∷ 0x01 ∷ a₁ ∷ 0x3C ∷ a₂ ∷ 0x3C ∷ 0x03 ∷ 0x01 ∷ 0x02 ∷ 0x01 ∷ []

-- 01's case A
abbrev A : List ℕ
A = like_a 1 1 1 1

-- T 0
abbrev G : List ℕ
G = take 19 A ++ (0x00 ∷ [])

-- kinds 2 1, all gaps 0, m 1
abbrev H : List ℕ
H = take 7 A ++ replicate 6 0 ++ drop 13 (take 19 A) ++ (0x02 ∷ 0x02 ∷ 0x01 ∷ [])

-- a message with 02's never in place of the byte at a position
abbrev never : ℕ → List ℕ → List ℕ
never i message = take i message ++ (0x80 ∷ 0x80 ∷ 0x04 ∷ []) ++ drop (i + 1) message

-- R + 256 × V, and the first bytes of a buffer of 77 zeros then
abbrev planned : List ℕ → (entries bytes : ℕ) → ℕ × List ℕ
planned message n bytes =
    let e : Ending = ending (read_queue message) n 77 in
    (answer_number (answer_of e), take bytes (buffer_of e (replicate 77 0)))

-- a table's entries then
abbrev table_then : TableEnding → List ℕ → List ℕ
table_then untouched table = table
table_then (filled_for q) table = tabulate (filled_entry (problem q) table) 0 (length table)

-- R + 256 × V, and a table of n sevens and a buffer of so many nines then
abbrev left : List ℕ → (entries room : ℕ) → ℕ × List ℕ × List ℕ
left message n room =
    let e : Ending = ending (read_queue message) n room in
    (answer_number (answer_of e), table_then (table_of e) (replicate n 7), buffer_of e (replicate room 9))

-- what an entry holds where no state is kept
abbrev none : ℕ
none = 2 ^ 64 - 1

-- what 01 says of each
pub record Planning : Type 0 where
  -- A: cost 70, kept 7, order 2 1 3; 12 entries are needed, and 77 bytes; one byte short it is no message
  pub A_plan : planned A 12 10 ≡ (256 * 10, 0x51 ∷ 0x50 ∷ 0x01 ∷ 0x01 ∷ 0x46 ∷ 0x07 ∷ 0x03 ∷ 0x02 ∷ 0x01 ∷ 0x03 ∷ [])
  pub A_eleven : left A 11 77 ≡ (16 + 256 * 12, replicate 11 7, replicate 77 9)
  pub A_short : left A 11 76 ≡ (15, replicate 11 7, replicate 76 9)
  pub A_cut : left (take 22 A) 13 76 ≡ (2, replicate 13 7, replicate 76 9)
  -- B: cost 200, order 1 3 2
  pub B_plan : planned (like_a 2 1 1 1) 12 11 ≡ (256 * 11, 0x51 ∷ 0x50 ∷ 0x01 ∷ 0x02 ∷ 0xC8 ∷ 0x01 ∷ 0x07 ∷ 0x03 ∷ 0x01 ∷ 0x03 ∷ 0x02 ∷ [])
  -- C: cost 80, order 1 3 2
  pub C_plan : planned (like_a 1 1 1 3) 12 10 ≡ (256 * 10, 0x51 ∷ 0x50 ∷ 0x01 ∷ 0x01 ∷ 0x50 ∷ 0x05 ∷ 0x03 ∷ 0x01 ∷ 0x03 ∷ 0x02 ∷ [])
  -- D: order 2 1 3
  pub D_plan : planned (like_a 1 1 2 1) 12 10 ≡ (256 * 10, 0x51 ∷ 0x50 ∷ 0x01 ∷ 0x01 ∷ 0x46 ∷ 0x06 ∷ 0x03 ∷ 0x02 ∷ 0x01 ∷ 0x03 ∷ [])
  -- E: 17, and the table is filled up to N × P
  pub E_none : left (like_a 1 1 3 1) 13 77
      ≡ (17, 0 ∷ none ∷ none ∷ none ∷ none ∷ none ∷ 0 ∷ 40 ∷ none ∷ none ∷ none ∷ none ∷ 7 ∷ [], replicate 77 9)
  -- F: cost 100, kept 3, order 1 2 3; with a_2 = 3 too, 17
  pub F_plan : planned (like_a 1 0 1 1) 12 10 ≡ (256 * 10, 0x51 ∷ 0x50 ∷ 0x01 ∷ 0x01 ∷ 0x64 ∷ 0x03 ∷ 0x03 ∷ 0x01 ∷ 0x02 ∷ 0x03 ∷ [])
  pub F_none : left (like_a 1 0 1 3) 13 77 ≡ (17, 0 ∷ replicate 11 none ++ (7 ∷ []), replicate 77 9)
  -- G: cost 0, kept 0, N entries
  pub G_plan : planned G 2 7 ≡ (256 * 7, 0x51 ∷ 0x50 ∷ 0x01 ∷ 0x01 ∷ 0x00 ∷ 0x00 ∷ 0x00 ∷ [])
  pub G_one : left G 1 77 ≡ (16 + 256 * 2, 7 ∷ [], replicate 77 9)
  -- A without 1 after 2: cost 80, kept 5, order 1 3 2; without 1 after 1 or 2, 17
  pub never_plan : planned (never 11 A) 12 10 ≡ (256 * 10, 0x51 ∷ 0x50 ∷ 0x01 ∷ 0x01 ∷ 0x50 ∷ 0x05 ∷ 0x03 ∷ 0x01 ∷ 0x03 ∷ 0x02 ∷ [])
  pub never_none : left (never 9 (never 11 A)) 13 77
      ≡ (17, 0 ∷ none ∷ none ∷ 50 ∷ none ∷ none ∷ 0 ∷ replicate 5 none ++ (7 ∷ []), replicate 77 9)
  -- H: order 2 1
  pub H_plan : planned H 8 9 ≡ (256 * 9, 0x51 ∷ 0x50 ∷ 0x01 ∷ 0x01 ∷ 0x00 ∷ 0x04 ∷ 0x02 ∷ 0x02 ∷ 0x01 ∷ [])
