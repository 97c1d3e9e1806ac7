-- Reading a queue message: 01's checks, one step a row of its table, in message order.
use Rattle.refusal.specs.Answers.{Verdict, Accepted}
use Rattle.std.specs.Prelude.{ℕ, suc, ◌+◌, List, [], ◌∷◌, map, replicate, Err}
use Rattle.std.proofs.lemmas.List.Edits.{sets}
use Rattle.refusal.specs.declared.Reason.TheVariants.{Edition, Kinds, Goal, Shift, Start, Gap, Pupils, Places, Jobs, JobKind}
use Rattle.number.specs.Readers.{Found, found, refused, Reader, ◌>>=◌, ◌>>◌, give, times}
use Rattle.number.specs.Numbers.{number}
use Rattle.fields.specs.Fields.{field, within}
use Rattle.fields.specs.Lists.{filled}
use Rattle.gaps.specs.Gaps.{gap_row}
use Rattle.fields.specs.Messages.{opening, end}
use Rattle.queue.specs.declared.Queue.{Queue}
use Rattle.queue.specs.declared.Window.{Window}
use Rattle.queue.specs.Record.{no_window, rows, weight_list, windows, kind_list, window_ok}

-- allowed places of one kind, judged after b_j
abbrev pub window : Reader (ℕ × ℕ)
window = do
  a ← number 3
  b ← field 3 (λ b. window_ok (a, b)) Places
  give (a, b)

-- the rows of gaps, each where it begins
unfoldable pub placed : List ℕ → ℕ → List (List ℕ) → List ℕ
placed gaps i [] = gaps
placed gaps i (row ∷ rows) = placed (sets gaps (gap_row i) row) (suc i) rows

-- the numbers before the gaps
pub record Settings : Type 0 where
  pub kinds : ℕ
  pub goal : ℕ
  pub max_shift : ℕ
  pub start : ℕ

-- N, goal, shift, start
unfoldable pub settings : Reader Settings
settings = do
  n ← field 3 (within 1 5) Kinds
  goal ← field 3 (within 1 2) Goal
  shift ← field 3 (within 0 60) Shift
  start ← field 3 (within 0 n) Start
  give (record { kinds = n; goal = goal; max_shift = shift; start = start })

-- a_j b_j as a record holds them
abbrev pub held : ℕ × ℕ → Window
held w = record { first = w.0; last = w.1 }

-- a queue without jobs
abbrev pub head_of : Settings → List (List ℕ) → List ℕ → List (ℕ × ℕ) → Queue
head_of f rows weights windows = record {
  kinds = f.kinds;
  goal = f.goal;
  max_shift = f.max_shift;
  start = f.start;
  gaps = placed (replicate 30 0) 0 rows;
  weights = filled 5 weights;
  windows = sets (replicate 5 no_window) 0 (map held windows);
  jobs = 0;
  job_kinds = replicate 60 0;
}

-- gap rows 0 to N (N numbers each), w_1 .. w_N, a_1 b_1 .. a_N b_N
unfoldable pub tables : Settings → Reader Queue
tables f = do
  rows ← times (f.kinds + 1) (times f.kinds (field 3 (within 0 65536) Gap))
  weights ← times f.kinds (field 3 (within 0 1000) Pupils)
  windows ← times f.kinds window
  give (head_of f rows weights windows)

-- the head: from N to the allowed places
unfoldable pub head : Reader Queue
head = settings >>= tables

-- the head's queue with its jobs
abbrev pub with_jobs : Queue → ℕ → List ℕ → Queue
with_jobs q t kinds = record {
  kinds = q.kinds;
  goal = q.goal;
  max_shift = q.max_shift;
  start = q.start;
  gaps = q.gaps;
  weights = q.weights;
  windows = q.windows;
  jobs = t;
  job_kinds = filled 60 kinds;
}

-- the jobs: T, then the T kinds
unfoldable pub jobs : Queue → Reader Queue
jobs q = do
  t ← field 3 (within 0 60) Jobs
  kinds ← times t (field 3 (within 1 q.kinds) JobKind)
  give (with_jobs q t kinds)

-- nothing is left over after the last number
abbrev pub closed : {A : Type 0} → Reader A → Reader A
closed last = do
  a ← last
  end
  give a

-- the whole message
unfoldable pub queue : Reader Queue
queue = do
  opening 0x51 0x53
  field 3 (within 1 1) Edition
  q ← head
  closed (jobs q)

-- the record of a refused message
abbrev pub blank : Queue
blank = record {
  kinds = 0;
  goal = 0;
  max_shift = 0;
  start = 0;
  gaps = replicate 30 0;
  weights = replicate 5 0;
  windows = replicate 5 no_window;
  jobs = 0;
  job_kinds = replicate 60 0;
}

-- what reading a queue message gives: on a refusal the record is all 0
pub record Reading : Type 0 where
  pub verdict : Verdict
  pub queue : Queue

-- a message is accepted when its reader refuses nothing in it
abbrev pub accepted : Queue → Reading
accepted q = record { verdict = Accepted; queue = q }

-- the record, or the one refusal with the record of zeros
abbrev pub as_reading : Found Queue → Reading
as_reading (found q n) = accepted q
as_reading (refused r) = record { verdict = Err r; queue = blank }

-- what reading bytes gives
unfoldable pub read_queue : List ℕ → Reading
read_queue s = as_reading (queue s 0)

-- a record with 0 past N and T, as records read hold
unfoldable pub cleared : Queue → Queue
cleared q =
    with_jobs (head_of (record { kinds = q.kinds; goal = q.goal; max_shift = q.max_shift; start = q.start }) (rows q) (weight_list q) (windows q))
    q.jobs (kind_list q)
