-- 01's small queues to check by, A to H, and the example of the source's chapter 5 at shift 0: what 01 says of each.
use mathlib.Core.List.{List, [], ◌∷◌, map, Memᴰ}
use Rattle.std.specs.Prelude.{◌↔◌, ◌≡◌, ℕ, length}
use Rattle.std.proofs.Math.Option.{Option, none, some}
use Rattle.gaps.specs.Gaps.{gap_between}
use Rattle.sequencing.specs.Orders.{IsOrder, Permitted, finishes, cost}
use Rattle.sequencing.specs.Recursion.{plan_cost, plan_kinds, plan_order}
use Rattle.sequencing.specs.Entries.{entries}
use Rattle.sequencing.specs.Counts.{feasible_states}
use Rattle.queue.specs.declared.Queue.{Queue}
use Rattle.queue.specs.Reading.{head_of, with_jobs}
use Rattle.problem.specs.OfQueue.{problem}

-- a queue record from its numbers, in message order: N, goal, m, s, gap rows, pupils, allowed places, kinds of the jobs
abbrev pub queue_of : (n goal shift start : ℕ) (rows : List (List ℕ)) (weights : List ℕ) (windows : List (ℕ × ℕ)) (kinds : List ℕ) → Queue
queue_of n goal m s rows weights windows kinds =
    with_jobs (head_of (record { kinds = n; goal = goal; max_shift = m; start = s }) rows weights windows) (length kinds) kinds

-- case A, but for its goal, shift, a_1, a_2 and the kinds of its jobs
abbrev pub like_a : (goal shift a₁ a₂ : ℕ) (kinds : List ℕ) → Queue
like_a goal m a₁ a₂ kinds =
    queue_of 2 goal m 0 ((10 ∷ 10 ∷ []) ∷ (20 ∷ 50 ∷ []) ∷ (40 ∷ 30 ∷ []) ∷ []) (3 ∷ 1 ∷ []) ((a₁, 60) ∷ (a₂, 60) ∷ []) kinds

-- 01's case A: goal 1, shift 1, all places, kinds 1 2 1
abbrev pub A : Queue
A = like_a 1 1 1 1 (1 ∷ 2 ∷ 1 ∷ [])

-- A with goal 2
abbrev pub B : Queue
B = like_a 2 1 1 1 (1 ∷ 2 ∷ 1 ∷ [])

-- A with a_2 = 3
abbrev pub C : Queue
C = like_a 1 1 1 3 (1 ∷ 2 ∷ 1 ∷ [])

-- A with a_1 = 2
abbrev pub D : Queue
D = like_a 1 1 2 1 (1 ∷ 2 ∷ 1 ∷ [])

-- A with a_1 = 3
abbrev pub E : Queue
E = like_a 1 1 3 1 (1 ∷ 2 ∷ 1 ∷ [])

-- A with m 0
abbrev pub F : Queue
F = like_a 1 0 1 1 (1 ∷ 2 ∷ 1 ∷ [])

-- and with a_2 = 3 too
abbrev pub F' : Queue
F' = like_a 1 0 1 3 (1 ∷ 2 ∷ 1 ∷ [])

-- T 0
abbrev pub G : Queue
G = like_a 1 1 1 1 []

-- kinds 2 1, all gaps 0, m 1
abbrev pub H : Queue
H = queue_of 2 1 1 0 [] (3 ∷ 1 ∷ []) ((1, 60) ∷ (1, 60) ∷ []) (2 ∷ 1 ∷ [])

-- chapter 5 at shift 0, under either goal; row 0 isn't read
abbrev pub chapter_5 : ℕ → Queue
chapter_5 goal = queue_of 3 goal 0 2
    ([] ∷ (96 ∷ 181 ∷ 228 ∷ []) ∷ (72 ∷ 80 ∷ 117 ∷ []) ∷ (72 ∷ 80 ∷ 90 ∷ []) ∷ [])
    (300 ∷ 150 ∷ 100 ∷ [])
    ((1, 60) ∷ (1, 60) ∷ (1, 60) ∷ [])
    (1 ∷ 1 ∷ 3 ∷ 2 ∷ 2 ∷ 3 ∷ 2 ∷ 1 ∷ 2 ∷ 1 ∷ 3 ∷ 3 ∷ 2 ∷ 1 ∷ 2 ∷ [])

-- these orders of q's jobs are permitted, and no other
abbrev pub Exactly : Queue → List (List ℕ) → Type 0
Exactly q os = (o : List ℕ) → (IsOrder (problem q) o × Permitted (problem q) o) ↔ Memᴰ o os

-- the plan's cost and order
abbrev pub plan : Queue → Option ℕ × List ℕ
plan q = (plan_cost (problem q), plan_order (problem q))

-- the kept count
abbrev pub kept : Queue → ℕ
kept q = feasible_states (problem q)

-- the kinds of the plan, place by place, and their finishes
abbrev pub plan_finishes : Queue → List ℕ × List ℕ
plan_finishes q = (plan_kinds (problem q), finishes (gap_between q.gaps) q.start 0 (plan_kinds (problem q)))

-- the three permitted orders of A and B
abbrev pub three : List (List ℕ)
three = (1 ∷ 2 ∷ 3 ∷ []) ∷ (2 ∷ 1 ∷ 3 ∷ []) ∷ (1 ∷ 3 ∷ 2 ∷ []) ∷ []

-- a plan has a cost, and 17 is where it has none
pub record Cases : Type 0 where
  -- A: its permitted orders and their costs; the plan, with kinds and finishes; the entries needed
  pub A_exactly_three : Exactly A three
  pub A_costs : map (cost (problem A)) three ≡ 100 ∷ 70 ∷ 80 ∷ []
  pub A_plan : plan A ≡ (some 70, 2 ∷ 1 ∷ 3 ∷ [])
  pub A_kept : kept A ≡ 7
  pub A_finishes : plan_finishes A ≡ (2 ∷ 1 ∷ 1 ∷ [], 10 ∷ 50 ∷ 70 ∷ [])
  pub A_entries : entries (problem A) ≡ 12
  -- B: the same orders, other costs
  pub B_exactly_three : Exactly B three
  pub B_costs : map (cost (problem B)) three ≡ 390 ∷ 370 ∷ 200 ∷ []
  pub B_plan : plan B ≡ (some 200, 1 ∷ 3 ∷ 2 ∷ [])
  pub B_kept : kept B ≡ 7
  -- C and D: allowed places decide (D's order costs what it costs in A)
  pub C_plan : plan C ≡ (some 80, 1 ∷ 3 ∷ 2 ∷ [])
  pub D_plan : plan D ≡ (some 70, 2 ∷ 1 ∷ 3 ∷ [])
  -- E: 17
  pub E_none : plan_cost (problem E) ≡ none
  -- F: hand-in order alone; with a_2 = 3 too, 17
  pub F_plan : plan F ≡ (some 100, 1 ∷ 2 ∷ 3 ∷ [])
  pub F_kept : kept F ≡ 3
  pub F_none : plan_cost (problem F') ≡ none
  -- G: no jobs
  pub G_plan : plan G ≡ (some 0, [])
  pub G_kept : kept G ≡ 0
  pub G_entries : entries (problem G) ≡ G.kinds
  -- H: a tie
  pub H_plan : plan H ≡ (some 0, 2 ∷ 1 ∷ [])
  -- chapter 5: a warm start, under both goals, and the entries needed
  pub last_finish : plan_cost (problem (chapter_5 1)) ≡ some 1729
  pub total_waiting : plan_cost (problem (chapter_5 2)) ≡ some 2383800
  pub chapter_5_entries : entries (problem (chapter_5 1)) ≡ 630
