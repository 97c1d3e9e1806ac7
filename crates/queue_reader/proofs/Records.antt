-- The records that the reader builds, from what its steps found.
-- Assumes nothing.
use Prim.Native.Nat.{ℕ, ◌+◌}
use mathlib.Core.Path.{◌≡◌}
use mathlib.Core.List.{List, map}
use lib.ListN.{replicate}
use lib.Seq.{sets}
use Rattle.refusal.specs.declared.Reason.TheVariants.{Kinds, Goal, Shift, Start, Pupils, Jobs, JobKind}
use Rattle.number.specs.Readers.{found, Reader, times}
use Rattle.fields.specs.Fields.{field, within}
use Rattle.fields.specs.Lists.{filled}
use Rattle.queue.specs.declared.Queue.{Queue}
use Rattle.queue.specs.declared.Window.{Window}
use Rattle.queue.specs.Record.{no_window}
use Rattle.queue.specs.Reading.{held, window, placed, settings, tables, head, jobs}
use Rattle.queue_reader.proofs.Loops.{gap_field}

-- one weight, and one job's kind
abbrev pub weight_field : Reader ℕ
weight_field = field 3 (within 0 1000) Pupils

abbrev pub kind_field : ℕ → Reader ℕ
kind_field n = field 3 (within 1 n) JobKind

module _ (kinds goal shift start : ℕ) (gaps weights : List ℕ) (array : List Window) where
  abbrev pub head_from : Queue
  head_from = record {
    kinds = kinds;
    goal = goal;
    max_shift = shift;
    start = start;
    gaps = gaps;
    weights = weights;
    windows = array;
    jobs = 0;
    job_kinds = replicate 60 0;
  }

  pub head_read : (s : List ℕ) (at a : ℕ) → field 3 (within 1 5) Kinds s at ≡ found kinds a
      → (b : ℕ) → field 3 (within 1 2) Goal s a ≡ found goal b
      → (c : ℕ) → field 3 (within 0 60) Shift s b ≡ found shift c
      → (d : ℕ) → field 3 (within 0 kinds) Start s c ≡ found start d
      → (rows : List (List ℕ)) (i : ℕ) → times (kinds + 1) (times kinds gap_field) s d ≡ found rows i
      → (ws : List ℕ) (j : ℕ) → times kinds weight_field s i ≡ found ws j
      → (windows : List (ℕ × ℕ)) (k : ℕ) → times kinds window s j ≡ found windows k
      → gaps ≡ placed (replicate 30 0) 0 rows → weights ≡ filled 5 ws → array ≡ sets (replicate 5 no_window) 0 (map held windows)
      → head s at ≡ found head_from k
  unfolding head settings tables
  head_read s at a n b g c m d t rows i e ws j f windows k h p q u = rw (n, g, m, t, e, f, h, p, q, u)

module _ (q : Queue) (t : ℕ) (array : List ℕ) where
  abbrev pub with_array : Queue
  with_array = record {
    kinds = q.kinds;
    goal = q.goal;
    max_shift = q.max_shift;
    start = q.start;
    gaps = q.gaps;
    weights = q.weights;
    windows = q.windows;
    jobs = t;
    job_kinds = array;
  }

  pub jobs_read : (s : List ℕ) (at a : ℕ) → field 3 (within 0 60) Jobs s at ≡ found t a
      → (kinds : List ℕ) (b : ℕ) → times t (kind_field q.kinds) s a ≡ found kinds b → array ≡ filled 60 kinds → jobs q s at ≡ found with_array b
  unfolding jobs
  jobs_read s at a e kinds b g is = rw (e, g, is)
