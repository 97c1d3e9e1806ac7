-- What a queue record holds, in document 01's terms, and the bounds on it.
use Rattle.std.specs.Prelude.{ℕ, ◌+◌, ◌-◌, ◌^◌, ◌<◌, ◌≤◌, Bool, ◌&&◌, List, map, ◌≡◌, leb, get_or}
use Rattle.fields.specs.Lists.{tabulate}
use Rattle.gaps.specs.Gaps.{gap_at}
use Rattle.queue.specs.declared.Queue.{Queue}
use Rattle.queue.specs.declared.Window.{Window}

-- allowed places (a_j, b_j): 11 where a_j is 0, b_j < a_j, or b_j over 60
abbrev pub window_ok : ℕ × ℕ → Bool
window_ok w = leb 1 w.0 && leb w.0 w.1 && leb w.1 60

-- the places allowed to no kind
abbrev pub no_window : Window
no_window = record { first = 0; last = 0 }

-- a_j b_j of a window
abbrev pub pair_of : Window → ℕ × ℕ
pair_of w = (w.first, w.last)

-- a_j b_j of each window, in order
abbrev pub window_pairs : List Window → List (ℕ × ℕ)
window_pairs windows = map pair_of windows

module _ (q : Queue) where
  -- gap(i, j)
  abbrev pub gap : ℕ → ℕ → ℕ
  gap = gap_at q.gaps

  -- w_j, the pupils waiting for one job of kind j
  abbrev pub weight : ℕ → ℕ
  weight j = get_or q.weights (j - 1) 0

  -- a_j, the first place allowed to kind j
  abbrev pub first_place : ℕ → ℕ
  first_place j = (get_or q.windows (j - 1) no_window).first

  -- b_j, the last place allowed to kind j
  abbrev pub last_place : ℕ → ℕ
  last_place j = (get_or q.windows (j - 1) no_window).last

  -- the kind of job i
  abbrev pub kind : ℕ → ℕ
  kind i = get_or q.job_kinds (i - 1) 0

  -- gap rows 0 to N, N numbers each
  abbrev pub rows : List (List ℕ)
  rows = tabulate (λ i. tabulate (gap i) 1 q.kinds) 0 (q.kinds + 1)

  -- w_1 .. w_N
  abbrev pub weight_list : List ℕ
  weight_list = tabulate weight 1 q.kinds

  -- a_1 b_1 .. a_N b_N
  abbrev pub windows : List (ℕ × ℕ)
  windows = tabulate (λ j. (first_place j, last_place j)) 1 q.kinds

  -- the T kinds
  abbrev pub kind_list : List ℕ
  kind_list = tabulate kind 1 q.jobs

  -- 01's bounds: a record that can be written, up to N and T
  pub record Valid : Type 0 where
    pub kinds : (1 ≤ q.kinds) × (q.kinds ≤ 5)
    pub goal : (1 ≤ q.goal) × (q.goal ≤ 2)
    pub shift : q.max_shift ≤ 60
    pub start : q.start ≤ q.kinds
    pub gaps : (i j : ℕ) → i ≤ q.kinds → 1 ≤ j → j ≤ q.kinds → gap i j ≤ 65536
    pub weights : (j : ℕ) → 1 ≤ j → j ≤ q.kinds → weight j ≤ 1000
    pub places : (j : ℕ) → 1 ≤ j → j ≤ q.kinds → (1 ≤ first_place j) × (first_place j ≤ last_place j) × (last_place j ≤ 60)
    pub jobs : q.jobs ≤ 60
    pub kinds_of_jobs : (i : ℕ) → 1 ≤ i → i ≤ q.jobs → (1 ≤ kind i) × (kind i ≤ q.kinds)

  -- a record whose numbers have at most three groups each, up to N and T
  pub record Fits : Type 0 where
    pub kinds : q.kinds < 2 ^ 21
    pub goal : q.goal < 2 ^ 21
    pub shift : q.max_shift < 2 ^ 21
    pub start : q.start < 2 ^ 21
    pub gaps : (i j : ℕ) → i ≤ q.kinds → 1 ≤ j → j ≤ q.kinds → gap i j < 2 ^ 21
    pub weights : (j : ℕ) → 1 ≤ j → j ≤ q.kinds → weight j < 2 ^ 21
    pub places : (j : ℕ) → 1 ≤ j → j ≤ q.kinds → (first_place j < 2 ^ 21) × (last_place j < 2 ^ 21)
    pub jobs : q.jobs < 2 ^ 21
    pub kinds_of_jobs : (i : ℕ) → 1 ≤ i → i ≤ q.jobs → kind i < 2 ^ 21

-- "round trips compare up to N and T": a record p is the same as q
pub record Same (p q : Queue) : Type 0 where
  pub kinds : p.kinds ≡ q.kinds
  pub goal : p.goal ≡ q.goal
  pub shift : p.max_shift ≡ q.max_shift
  pub start : p.start ≡ q.start
  pub gaps : (i j : ℕ) → i ≤ q.kinds → 1 ≤ j → j ≤ q.kinds → gap p i j ≡ gap q i j
  pub weights : (j : ℕ) → 1 ≤ j → j ≤ q.kinds → weight p j ≡ weight q j
  pub places : (j : ℕ) → 1 ≤ j → j ≤ q.kinds → (first_place p j ≡ first_place q j) × (last_place p j ≡ last_place q j)
  pub jobs : p.jobs ≡ q.jobs
  pub kinds_of_jobs : (i : ℕ) → 1 ≤ i → i ≤ q.jobs → kind p i ≡ kind q i
