-- Writing a queue message.
use Rattle.refusal.specs.Answers.{Verdict, Written}
use Rattle.std.specs.Prelude.{ℕ, length}
use mathlib.Core.List.{List, [], ◌∷◌, ◌++◌, flat_map}
use Rattle.refusal.specs.declared.Reason.TheVariants.{Kinds, Goal, Shift, Start, Gap, Pupils, Places, Jobs, JobKind}
use Rattle.number.specs.Numbers.{encode}
use Rattle.fields.specs.Fields.{within, all, encode_all}
use Rattle.fields.specs.Messages.{check, ◌before◌, write_answer, buffer_after}
use Rattle.queue.specs.declared.Queue.{Queue}
use Rattle.queue.specs.Record.{rows, weight_list, windows, kind_list, window_ok}

-- a_j b_j
abbrev pub encode_window : ℕ × ℕ → List ℕ
encode_window w = encode w.0 ++ encode w.1

-- N, goal, m, s
abbrev pub settings_bytes : Queue → List ℕ
settings_bytes q = encode q.kinds ++ encode q.goal ++ encode q.max_shift ++ encode q.start

-- from N to the allowed places
unfoldable pub head_bytes : Queue → List ℕ
head_bytes q = settings_bytes q ++ flat_map encode_all (rows q) ++ encode_all (weight_list q) ++ flat_map encode_window (windows q)

-- T, then the T kinds
unfoldable pub job_bytes : Queue → List ℕ
job_bytes q = encode q.jobs ++ encode_all (kind_list q)

-- bytes 51 53, then edition 1, the head and the jobs
unfoldable pub message : Queue → List ℕ
message q = (0x51 ∷ 0x53 ∷ []) ++ encode 1 ++ head_bytes q ++ job_bytes q

-- 5 to 8
unfoldable pub judge_settings : Queue → Verdict
judge_settings q =
    check (within 1 5 q.kinds) Kinds
    before check (within 1 2 q.goal) Goal
    before check (within 0 60 q.max_shift) Shift
    before check (within 0 q.kinds q.start) Start

-- 9 to 11
unfoldable pub judge_tables : Queue → Verdict
judge_tables q =
    check (all (all (within 0 65536)) (rows q)) Gap
    before check (all (within 0 1000) (weight_list q)) Pupils
    before check (all window_ok (windows q)) Places

-- from N to the allowed places
unfoldable pub judge_head : Queue → Verdict
judge_head q = judge_settings q before judge_tables q

-- 12 and 13
unfoldable pub judge_jobs : Queue → Verdict
judge_jobs q = check (within 0 60 q.jobs) Jobs before check (all (within 1 q.kinds) (kind_list q)) JobKind

-- the record judged in message order, 5 to 13: the first that refuses
unfoldable pub judge : Queue → Verdict
judge q = judge_head q before judge_jobs q

-- a buffer of at least 178 bytes is asked
unfoldable pub write_queue : Queue → ℕ → Written
write_queue q room = write_answer 178 (judge q) room (message q)

-- the buffer then
unfoldable pub written_queue : Queue → List ℕ → List ℕ
written_queue q buffer = buffer_after (write_queue q (length buffer)) (message q) buffer
