-- Small queues split over two cutters, some of them with successions forbidden, and 02's 19 of small queues.
use Rattle.std.specs.Prelude.{true, false, List, [], ◌∷◌, map, ◌≡◌, ℕ}
use Rattle.std.proofs.Math.Option.{Option, none, some}
use Rattle.queue.specs.declared.Queue.{Queue}
use Rattle.sequencing.specs.Recursion.{plan_cost}
use Rattle.problem.specs.OfQueue.{problem}
use Rattle.problem.specs.Cases.{queue_of, like_a, A, H}
use Rattle.problem.specs.Forbidden.{X, rows_of}
use Rattle.splitting.specs.Splits.{split_cost}
use Rattle.splitting.specs.Taken.{counts_cost, taken_cost, taken_counts, first_order, second_order}
use Rattle.splitting.specs.Covers.{covers}

-- 01's case A with every place permitted to up to five jobs, but for its goal and the kinds of its jobs
abbrev pub free_a : (goal : ℕ) (kinds : List ℕ) → Queue
free_a goal kinds = like_a goal 4 1 1 kinds

-- the example of the source's 6.1: rows 80 120 / 80 90, starts 1 and 2, two jobs of kind 1 and one of kind 2
abbrev pub source : Queue
source = queue_of 2 1 2 1 ([] ∷ (80 ∷ 120 ∷ []) ∷ (80 ∷ 90 ∷ []) ∷ []) (1 ∷ 1 ∷ []) ((1, 60) ∷ (1, 60) ∷ []) (1 ∷ 1 ∷ 2 ∷ [])

-- its partitions, by the first cutter's counts
abbrev pub partitions : List (List ℕ)
partitions = (0 ∷ 0 ∷ []) ∷ (0 ∷ 1 ∷ []) ∷ (1 ∷ 0 ∷ []) ∷ (1 ∷ 1 ∷ []) ∷ (2 ∷ 0 ∷ []) ∷ (2 ∷ 1 ∷ []) ∷ []

-- three jobs at shift 2, and the last place allowed to kind 2
abbrev pub last_place₂ : ℕ → Queue
last_place₂ b = queue_of 2 1 2 0 [] (3 ∷ 1 ∷ []) ((1, 60) ∷ (1, b) ∷ []) (1 ∷ 2 ∷ 1 ∷ [])

-- A with every place permitted, but for its goal, start, gap rows, pupils and the kinds of its jobs
abbrev pub free_rows : (goal start : ℕ) (rows : List (List ℕ)) (weights kinds : List ℕ) → Queue
free_rows goal s rows weights kinds = rows_of goal 4 s rows weights kinds

-- no job may follow another, so that a cold cutter can have one job and a warm one none
abbrev pub apart : (start : ℕ) (kinds : List ℕ) → Queue
apart s kinds = free_rows 1 s ((10 ∷ 10 ∷ []) ∷ (X ∷ X ∷ []) ∷ (X ∷ X ∷ []) ∷ []) (3 ∷ 1 ∷ []) kinds

-- row 0 all never, with any start
abbrev pub not_cold : ℕ → Queue
not_cold s = free_rows 1 s ((X ∷ X ∷ []) ∷ (20 ∷ 50 ∷ []) ∷ (40 ∷ 30 ∷ []) ∷ []) (3 ∷ 1 ∷ []) (1 ∷ 2 ∷ 1 ∷ [])

-- row 0: no 1 first, on a cold cutter, under goal 2
abbrev pub not_1_first : Queue
not_1_first = free_rows 2 0 ((X ∷ 10 ∷ []) ∷ (20 ∷ 50 ∷ []) ∷ (40 ∷ 30 ∷ []) ∷ []) (3 ∷ 1 ∷ []) (1 ∷ 2 ∷ 1 ∷ [])

-- no 1 after 1, under either goal, with any pupils
abbrev pub no_repeat : (goal : ℕ) (weights : List ℕ) → Queue
no_repeat goal weights = free_rows goal 0 ((10 ∷ 10 ∷ []) ∷ (X ∷ 50 ∷ []) ∷ (40 ∷ 30 ∷ []) ∷ []) weights (1 ∷ 2 ∷ 1 ∷ [])

-- of the split taken with start kind s on the second cutter: the counts, the cost, the jobs of both, and what these cost by 02's own words
abbrev pub split : Queue → (s : ℕ) → List ℕ × Option ℕ × List ℕ × List ℕ × ℕ
split q s = (
  taken_counts (problem q) s,
  taken_cost (problem q) s,
  first_order (problem q) s,
  second_order (problem q) s,
  split_cost (problem q) s (first_order (problem q) s) (second_order (problem q) s),
)

pub record Cases : Type 0 where
  -- A, the second cutter cold or warm; cold, two of kind 1 on the first cutter would cost 30 too
  pub A_cold : split (free_a 1 (1 ∷ 2 ∷ 1 ∷ [])) 0 ≡ (0 ∷ 1 ∷ [], some 30, 2 ∷ [], 1 ∷ 3 ∷ [], 30)
  pub A_after_1 : split (free_a 1 (1 ∷ 2 ∷ 1 ∷ [])) 1 ≡ (0 ∷ 1 ∷ [], some 40, 2 ∷ [], 1 ∷ 3 ∷ [], 40)
  pub A_after_2 : split (free_a 1 (1 ∷ 2 ∷ 1 ∷ [])) 2 ≡ (2 ∷ 0 ∷ [], some 30, 1 ∷ 3 ∷ [], 2 ∷ [], 30)
  -- B
  pub B_cold : split (free_a 2 (1 ∷ 2 ∷ 1 ∷ [])) 0 ≡ (1 ∷ 0 ∷ [], some 120, 1 ∷ [], 3 ∷ 2 ∷ [], 120)
  pub B_after_1 : split (free_a 2 (1 ∷ 2 ∷ 1 ∷ [])) 1 ≡ (1 ∷ 1 ∷ [], some 150, 1 ∷ 2 ∷ [], 3 ∷ [], 150)
  pub B_after_2 : split (free_a 2 (1 ∷ 2 ∷ 1 ∷ [])) 2 ≡ (2 ∷ 0 ∷ [], some 150, 1 ∷ 3 ∷ [], 2 ∷ [], 150)
  -- five jobs
  pub A_five : split (free_a 1 (1 ∷ 2 ∷ 1 ∷ 2 ∷ 1 ∷ [])) 2 ≡ (3 ∷ 0 ∷ [], some 60, 1 ∷ 3 ∷ 5 ∷ [], 2 ∷ 4 ∷ [], 60)
  pub B_five : split (free_a 2 (1 ∷ 2 ∷ 1 ∷ 2 ∷ 1 ∷ [])) 0 ≡ (1 ∷ 1 ∷ [], some 290, 1 ∷ 2 ∷ [], 3 ∷ 5 ∷ 4 ∷ [], 290)
  -- an empty cutter: one job, no jobs, and H, where every split costs 0
  pub one_job : split (free_a 1 (2 ∷ [])) 0 ≡ (0 ∷ 0 ∷ [], some 10, [], 1 ∷ [], 10)
  pub none_handed_in : split (free_a 1 []) 0 ≡ (0 ∷ 0 ∷ [], some 0, [], [], 0)
  pub H_cold : split H 0 ≡ (0 ∷ 0 ∷ [], some 0, [], 2 ∷ 1 ∷ [], 0)
  -- the source's example: its six partitions, and the one that it takes
  pub source_costs : map (counts_cost (problem source) 2) partitions ≡ some 250 ∷ some 160 ∷ some 170 ∷ some 200 ∷ some 160 ∷ some 280 ∷ []
  pub source_split : split source 2 ≡ (0 ∷ 1 ∷ [], some 160, 3 ∷ [], 1 ∷ 2 ∷ [], 160)
  -- one cutter has no order of two jobs, and two have a job each; with the second one warm, or with a third job, there is no split: 17
  pub apart_alone : plan_cost (problem (apart 0 (1 ∷ 2 ∷ []))) ≡ none
  pub apart_two : split (apart 0 (1 ∷ 2 ∷ [])) 0 ≡ (0 ∷ 1 ∷ [], some 10, 2 ∷ [], 1 ∷ [], 10)
  pub apart_warm : taken_cost (problem (apart 0 (1 ∷ 2 ∷ []))) 1 ≡ none
  pub apart_three : taken_cost (problem (apart 0 (1 ∷ 2 ∷ 1 ∷ []))) 0 ≡ none
  -- an empty cutter counts 0, also where the row of its start is all never: the second, both, the first
  pub apart_one : split (apart 0 (1 ∷ [])) 1 ≡ (1 ∷ 0 ∷ [], some 10, 1 ∷ [], [], 10)
  pub apart_none : split (apart 1 []) 2 ≡ (0 ∷ 0 ∷ [], some 0, [], [], 0)
  pub first_cold : split (not_cold 0) 1 ≡ (0 ∷ 0 ∷ [], some 90, [], 1 ∷ 3 ∷ 2 ∷ [], 90)
  pub second_cold : split (not_cold 2) 0 ≡ (2 ∷ 1 ∷ [], some 90, 2 ∷ 1 ∷ 3 ∷ [], [], 90)
  pub both_cold : taken_cost (problem (not_cold 0)) 0 ≡ none
  -- row 0 speaks of the first cutter's first job, the second cutter being warm
  pub not_1_first_split : split not_1_first 2 ≡ (1 ∷ 1 ∷ [], some 280, 2 ∷ 1 ∷ [], 3 ∷ [], 280)
  -- A's cheapest splits, of cost 30, have 1 after 1: where that is never, another is taken
  pub no_repeat_costs : map (counts_cost (problem (no_repeat 1 (3 ∷ 1 ∷ []))) 0) partitions ≡ some 100 ∷ none ∷ some 50 ∷ some 50 ∷ none ∷ some 100 ∷ []
  pub no_repeat_split : split (no_repeat 1 (3 ∷ 1 ∷ [])) 0 ≡ (1 ∷ 0 ∷ [], some 50, 1 ∷ [], 2 ∷ 3 ∷ [], 50)
  -- W = 0: never is still never
  pub no_pupils_costs : map (counts_cost (problem (no_repeat 2 (0 ∷ 0 ∷ []))) 0) partitions ≡ some 0 ∷ none ∷ some 0 ∷ some 0 ∷ none ∷ some 0 ∷ []
  pub no_pupils_split : split (no_repeat 2 (0 ∷ 0 ∷ [])) 0 ≡ (0 ∷ 0 ∷ [], some 0, [], 1 ∷ 2 ∷ 3 ∷ [], 0)
  -- no 19 at shift T − 1, and 19 below it
  pub shift_enough : covers (like_a 1 2 1 1 (1 ∷ 2 ∷ 1 ∷ [])) ≡ true
  pub shift_short : covers A ≡ false
  -- 19 by the first place allowed to a kind, also to one without jobs, and by the last; nothing is to be covered with no jobs
  pub first_place_uncovered : covers (like_a 1 2 1 2 (1 ∷ 2 ∷ 1 ∷ [])) ≡ false
  pub first_place_unused : covers (like_a 1 2 1 2 (1 ∷ 1 ∷ 1 ∷ [])) ≡ false
  pub last_place_uncovered : covers (last_place₂ 2) ≡ false
  pub last_place_enough : covers (last_place₂ 3) ≡ true
  pub no_places : covers (like_a 1 0 5 5 []) ≡ true
