-- Entry numbers that run along with k: the part that k makes, and what is taken off and added for a next state.
use Rattle.std.specs.Prelude.{ℕ, ◌+◌, ◌-◌, ◌*◌, ◌%◌, ◌^◌, ◌≤◌, ◌<◌, suc, List, ◌≡◌, get_or}
use Rattle.sequencing.specs.Problem.{Problem}
use Rattle.sequencing.specs.States.{all_left}
use Rattle.sequencing.specs.Entries.{stride, block}
use Rattle.jobs_left.specs.declared.JobsLeft.{JobsLeft}
use Rattle.jobs_left.specs.declared.Kind.{Kind}
use Rattle.jobs_left.specs.Kinds.{kind_at}
use Rattle.jobs_left.specs.Steps.{LeftAt}
use Rattle.layout.specs.declared.Layout.{Layout}

-- 02's blocks, (x − 1) × P: all that a state's entry number takes beside k's own part
pub record Blocks (P : Problem) (l : Layout) : Type 0 where
  pub block_is : (x : ℕ) → 1 ≤ x → x ≤ P.N → (kind_at l.kinds x).block ≡ (x - 1) * block P

-- what entry numbers are made of: 02's weights, what one job of each kind counts for, and 02's blocks, (x − 1) × P
pub record Numbers (P : Problem) (l : Layout) : Type 0 where
  pub few : P.N ≤ 5
  pub stride_is : (x : ℕ) → 1 ≤ x → x ≤ P.N → (kind_at l.kinds x).stride ≡ stride (all_left P) x
  pub block_is : (x : ℕ) → 1 ≤ x → x ≤ P.N → (kind_at l.kinds x).block ≡ (x - 1) * block P

-- what a step to kind x (from 0) may rely on; it is asked of the kinds before x too, so that only the promise tells them apart
pub record Steppable (kinds : List Kind) (index x : ℕ) : Type 0 where
  pub x_in : x < 5
  pub lower : (y : ℕ) → y ≤ x → (kind_at kinds (suc y)).stride ≤ index
  pub fits : (y : ℕ) → y ≤ x → index + (kind_at kinds (suc y)).block < 2 ^ 64

-- 02's weight taken off and block added, for one kind, as one number of 64 bits
abbrev pub step_by : Kind → ℕ
step_by k = (k.block + (2 ^ 64 - k.stride)) % 2 ^ 64

-- these numbers of five kinds
abbrev pub StepsOf : Layout → List ℕ → Type 0
StepsOf l steps = (x : ℕ) → x < 5 → get_or steps x 0 ≡ step_by (kind_at l.kinds (suc x))

-- 02's running number: k's index is the part of the entry number that k makes
pub record Running (P : Problem) (l : Layout) (k : JobsLeft) : Type 0 where
  pub left_at : LeftAt P k.left k.index
  pub numbers : Numbers P l
