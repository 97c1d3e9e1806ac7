-- Case A of 01 with successions forbidden (02, S-2): what follows from 02's sentences, worked out by hand over all orders and states.
use Rattle.std.specs.Prelude.{List, [], ◌∷◌, map, ◌≡◌, ℕ}
use Rattle.std.proofs.Math.Option.{none, some}
use Rattle.sequencing.specs.Orders.{cost}
use Rattle.sequencing.specs.Recursion.{plan_cost}
use Rattle.queue.specs.declared.Queue.{Queue}
use Rattle.problem.specs.OfQueue.{problem}
use Rattle.problem.specs.Cases.{queue_of, three, Exactly, plan, kept, plan_finishes}

-- a gap as a message writes never
abbrev pub X : ℕ
X = 65536

-- A but for its goal, shift, start, gap rows, pupils and the kinds of its jobs
abbrev pub rows_of : (goal shift start : ℕ) (rows : List (List ℕ)) (weights kinds : List ℕ) → Queue
rows_of goal m s rows weights kinds = queue_of 2 goal m s rows weights ((1, 60) ∷ (1, 60) ∷ []) kinds

-- A but for its goal, start, gap rows and pupils
abbrev pub with_rows : (goal start : ℕ) (rows : List (List ℕ)) (weights : List ℕ) → Queue
with_rows goal s rows weights = rows_of goal 1 s rows weights (1 ∷ 2 ∷ 1 ∷ [])

-- no 1 after 2
abbrev pub after_2 : Queue
after_2 = with_rows 1 0 ((10 ∷ 10 ∷ []) ∷ (20 ∷ 50 ∷ []) ∷ (X ∷ 30 ∷ []) ∷ []) (3 ∷ 1 ∷ [])

-- the same with 65535, which is seconds
abbrev pub long_after_2 : Queue
long_after_2 = with_rows 1 0 ((10 ∷ 10 ∷ []) ∷ (20 ∷ 50 ∷ []) ∷ (65535 ∷ 30 ∷ []) ∷ []) (3 ∷ 1 ∷ [])

-- row 0: no 2 first, on a cold cutter
abbrev pub not_first : Queue
not_first = with_rows 1 0 ((10 ∷ X ∷ []) ∷ (20 ∷ 50 ∷ []) ∷ (40 ∷ 30 ∷ []) ∷ []) (3 ∷ 1 ∷ [])

-- row 0 all never, with any start
abbrev pub none_first : ℕ → Queue
none_first s = with_rows 1 s ((X ∷ X ∷ []) ∷ (20 ∷ 50 ∷ []) ∷ (40 ∷ 30 ∷ []) ∷ []) (3 ∷ 1 ∷ [])

-- the diagonal: no 1 after 1, under either goal, with any pupils
abbrev pub no_repeat : (goal : ℕ) (weights : List ℕ) → Queue
no_repeat goal weights = with_rows goal 0 ((10 ∷ 10 ∷ []) ∷ (X ∷ 50 ∷ []) ∷ (40 ∷ 30 ∷ []) ∷ []) weights

-- no 1 after 1 or 2
abbrev pub only_first : Queue
only_first = with_rows 1 0 ((10 ∷ 10 ∷ []) ∷ (X ∷ 50 ∷ []) ∷ (X ∷ 30 ∷ []) ∷ []) (3 ∷ 1 ∷ [])

-- no pupils wait, and nothing is forbidden
abbrev pub no_pupils : Queue
no_pupils = with_rows 2 0 ((10 ∷ 10 ∷ []) ∷ (20 ∷ 50 ∷ []) ∷ (40 ∷ 30 ∷ []) ∷ []) (0 ∷ 0 ∷ [])

-- 17 is where the plan's cost is none; by places alone each of these queues has A's three permitted orders
pub record Forbidden : Type 0 where
  -- one succession less: of A's three orders one is left, and two of its seven states have no way on
  pub after_2_orders : Exactly after_2 ((1 ∷ 3 ∷ 2 ∷ []) ∷ [])
  pub after_2_plan : plan after_2 ≡ (some 80, 1 ∷ 3 ∷ 2 ∷ [])
  pub after_2_kept : kept after_2 ≡ 5
  -- 65535 forbids nothing
  pub long_costs : map (cost (problem long_after_2)) three ≡ 65595 ∷ 65565 ∷ 80 ∷ []
  pub long_kept : kept long_after_2 ≡ 7
  -- row 0 speaks of the first job only: A's plan is gone, and every state is still kept
  pub not_first_orders : Exactly not_first ((1 ∷ 2 ∷ 3 ∷ []) ∷ (1 ∷ 3 ∷ 2 ∷ []) ∷ [])
  pub not_first_plan : plan not_first ≡ (some 80, 1 ∷ 3 ∷ 2 ∷ [])
  pub not_first_kept : kept not_first ≡ 7
  -- 17 by row 0 alone, with every state kept; a warm cutter does not read row 0
  pub none_first_cold : plan_cost (problem (none_first 0)) ≡ none
  pub none_first_kept : kept (none_first 0) ≡ 7
  pub none_first_warm : plan (none_first 2) ≡ (some 90, 2 ∷ 1 ∷ 3 ∷ [])
  pub none_first_finishes : plan_finishes (none_first 2) ≡ (2 ∷ 1 ∷ 1 ∷ [], 30 ∷ 70 ∷ 90 ∷ [])
  -- never from a kind to itself
  pub no_repeat_orders : Exactly (no_repeat 1 (3 ∷ 1 ∷ [])) ((1 ∷ 2 ∷ 3 ∷ []) ∷ [])
  pub no_repeat_plan : plan (no_repeat 1 (3 ∷ 1 ∷ [])) ≡ (some 100, 1 ∷ 2 ∷ 3 ∷ [])
  pub no_repeat_kept : kept (no_repeat 1 (3 ∷ 1 ∷ [])) ≡ 5
  -- 17 by successions alone
  pub only_first_orders : Exactly only_first []
  pub only_first_none : plan_cost (problem only_first) ≡ none
  pub only_first_kept : kept only_first ≡ 3
  -- W = 0: with no pupils each order costs 0, and never is still never
  pub no_pupils_plan : plan no_pupils ≡ (some 0, 1 ∷ 3 ∷ 2 ∷ [])
  pub no_pupils_never : plan (no_repeat 2 (0 ∷ 0 ∷ [])) ≡ (some 0, 1 ∷ 2 ∷ 3 ∷ [])
  pub no_pupils_kept : kept (no_repeat 2 (0 ∷ 0 ∷ [])) ≡ 5
