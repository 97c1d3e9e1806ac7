-- Entry numbers that run along with k: what is known of the kinds gives 01's number of the state and of each next state.
-- Assumes nothing.
use Prim.Native.Nat.{ℕ, zero, suc, ◌+◌, ◌-◌, ◌*◌, ◌%◌, ◌^◌, ◌≤◌, ◌<◌}
use mathlib.Core.List.{List}
use mathlib.Core.Logic.{inl, inr, ◌≢◌}
use mathlib.Core.Path.{◌≡◌, sym, ap, ◌∙◌}
use native.Mathlib.Nat.{eq-zero-or-pos, add-mod-mod, add-mod_right, mod-eq_of_lt}
use native.Mathlib.Omega.{arith}
use lib.Arith.{digits_lt}
use lib.ListN.{get_or}
use Rattle.std.proofs.lemmas.Bool.{cases_lt}
use Rattle.sequencing.specs.Lists.{at}
use Rattle.sequencing.specs.Problem.{Problem}
use Rattle.sequencing.specs.States.{complete, all_left}
use Rattle.sequencing.specs.Entries.{index, stride, block, entries, k_at, number}
use Rattle.sequencing.proofs.Entries.{left_digits}
use Rattle.sequencing.proofs.Radix.{index_digits, index_complete, digits_length}
use Rattle.sequencing.proofs.Vectors.{at_in}
use Rattle.jobs_left.specs.declared.JobsLeft.{JobsLeft}
use Rattle.jobs_left.specs.Steps.{LeftAt}
use Rattle.jobs_left.specs.declared.Kind.{Kind}
use Rattle.jobs_left.specs.Kinds.{no_kind, kind_at}
use Rattle.jobs_left.proofs.LeftAt.{left_at, stride_within}
use Rattle.layout.specs.declared.Layout.{Layout}
use Rattle.layout.specs.declared.Setup.{Setup}
use Rattle.layout.proofs.Prepared.{kind_is}
use Rattle.problem.specs.OfQueue.{problem}
use Rattle.next_states.specs.Numbers.{Blocks, Numbers, Steppable, Running, StepsOf}

-- ---- 01's number

-- a kind with a job left is one of the N
kind_in : (P : Problem) (i x : ℕ) → 0 < at (k_at P i) x → (1 ≤ x) × (x ≤ P.N)
kind_in P i x h = omega (arith, at_in (k_at P i) x h, (left_digits P i).long)

pub number_at : (P : Problem) (l i : ℕ) → i < block P → number P (suc l) (k_at P i) ≡ l * block P + i
unfolding number
number_at P l i h = ap (λ n. l * block P + n) (index_digits (all_left P) i h)

-- the weights of the kinds up to one with a job left are no larger than the running number
pub stride_below : (P : Problem) (i x y : ℕ) → i < block P → 0 < at (k_at P i) x → y ≤ x → stride (all_left P) y ≤ i
stride_below P i x y h some l = stride_within (all_left P) i x h some y l

pub number_next : (P : Problem) (i x : ℕ) → i < block P → 0 < at (k_at P i) x
    → number P x (complete (k_at P i) x) ≡ (x - 1) * block P + (i - stride (all_left P) x)
unfolding number
number_next P i zero h some = absurd (omega arith)
number_next P i (suc l) h some =
    let s : suc l - 1 ≡ l = omega arith in
    let cs = all_left P in
    let less : index cs (complete (k_at P i) (suc l)) ≡ i - stride cs (suc l) =
    omega (arith, index_complete cs (k_at P i) (suc l) (digits_length cs i) some, index_digits cs i h) in
    rw s (ap (λ n. l * block P + n) less)

-- it is an entry of the table
pub next_below : (P : Problem) (i x : ℕ) → i < block P → 0 < at (k_at P i) x → number P x (complete (k_at P i) x) < entries P
next_below P i x h some =
    let (low, high) = kind_in P i x some in
    rw (number_next P i x h some) (digits_lt {q = x - 1} {m = P.N} (omega arith) (omega arith))

-- so much less and so much more, as one number that 64 bits add
wrapped : (i less more : ℕ) → less ≤ i → i + more < 2 ^ 64 → (i + (more + (2 ^ 64 - less)) % 2 ^ 64) % 2 ^ 64 ≡ i - less + more
wrapped i less more l h =
    let sum : i + (more + (2 ^ 64 - less)) ≡ i - less + more + 2 ^ 64 = omega arith in
    add-mod-mod i (more + (2 ^ 64 - less)) (2 ^ 64) ∙ ap (λ (n : ℕ). n % 2 ^ 64) sum ∙ add-mod_right (i - less + more) (2 ^ 64) ∙ mod-eq_of_lt (omega arith)

-- ---- k in an array

pub left_is : {P : Problem} {left : List ℕ} {i : ℕ} → LeftAt P left i → (x : ℕ) → 1 ≤ x → at left x ≡ at (k_at P i) x
left_is {P} {left} {i} w x l = elim (cases_lt P.N x) [
  | inl b ↦ (elim (eq-zero-or-pos (at (k_at P i) x)) [ inl e ↦ w.past x b ∙ sym e | inr h ↦ absurd (omega (arith, kind_in P i x h)) ])
  | inr b ↦ left_at w x l b
]

-- ---- by what is known of the kinds

module _ {P : Problem} {l : Layout} {i : ℕ} (blocks : Blocks P l) (in_block : i < block P) where
  block_here : (x : ℕ) → x < P.N → (get_or l.kinds x no_kind).block ≡ x * block P
  block_here x h = let e : suc x - 1 ≡ x = omega arith in rw e at (blocks.block_is (suc x) (omega arith) h)

  -- (L; k), L from 0
  pub state_number : (x : ℕ) → x < P.N → i + (get_or l.kinds x no_kind).block ≡ number P (suc x) (k_at P i)
  state_number x h = omega (arith, block_here x h, number_at P x i in_block)

blocks_of : {P : Problem} {l : Layout} → Numbers P l → Blocks P l
blocks_of n = record { block_is = n.block_is }

module _ {P : Problem} {l : Layout} {i : ℕ} (n : Numbers P l) (in_block : i < block P) where
  -- the next state by way of kind x, from 0
  pub next_number : (x : ℕ) → 0 < at (k_at P i) (suc x)
      → i - (get_or l.kinds x no_kind).stride + (get_or l.kinds x no_kind).block ≡ number P (suc x) (complete (k_at P i) (suc x))
  next_number x some =
      let (low, high) = kind_in P i (suc x) some in
      let e : suc x - 1 ≡ x = omega arith in
      omega (arith, rw e at (n.stride_is (suc x) low high), block_here (blocks_of n) in_block x high, rw e at (number_next P i (suc x) in_block some))

-- ---- where a job of kind x, from 0, is left

module _ {P : Problem} {l : Layout} {k : JobsLeft} (w : Running P l k) (x : ℕ) (left : get_or k.left x 0 ≢ 0) where
  pub some_left : 0 < at (k_at P k.index) (suc x)
  some_left = omega (arith, left_is w.left_at (suc x) (omega arith))

  -- the step to kind x may be taken
  pub steppable : entries P < 2 ^ 64 → Steppable l.kinds k.index x
  steppable fits =
      let (low, high) = kind_in P k.index (suc x) some_left in
      let n = w.numbers in
      record {
        x_in = omega (arith, n.few);
        lower = λ y h.
            omega (arith, n.stride_is (suc y) (omega arith) (omega arith), stride_below P k.index (suc x) (suc y) w.left_at.within some_left (omega arith));
        fits = λ y h. omega (arith, n.block_is (suc y) (omega arith) (omega arith), digits_lt {q = suc y - 1} {m = P.N} (omega arith) w.left_at.within);
      }

  -- a step added as 64 bits add gives that entry too
  pub step_entry : entries P < 2 ^ 64 → (steps : List ℕ) → StepsOf l steps
      → (k.index + get_or steps x 0) % 2 ^ 64 ≡ number P (suc x) (complete (k_at P k.index) (suc x))
  step_entry fits steps of =
      let may = steppable fits in
      let e : suc x - 1 ≡ x = omega arith in
      let is : k.index - (kind_at l.kinds (suc x)).stride + (kind_at l.kinds (suc x)).block ≡ number P (suc x) (complete (k_at P k.index) (suc x)) =
      rw e (next_number w.numbers w.left_at.within x some_left) in
      rw (of x may.x_in) (wrapped k.index _ _ (may.lower x (omega arith)) (may.fits x (omega arith)) ∙ is)

  -- the entry of the next state is one of the table's
  pub entry_in : {e : ℕ} → (0 < at (k_at P k.index) (suc x) → e ≡ number P (suc x) (complete (k_at P k.index) (suc x))) → e < entries P
  entry_in is = omega (arith, is some_left, next_below P k.index (suc x) w.left_at.within some_left)

-- ---- a queue's

pub numbers : (s : Setup) → Numbers (problem s.queue) s.layout
numbers s = record {
  few = s.valid.kinds.1;
  stride_is = λ x low high. ap (λ (k : Kind). k.stride) (kind_is s.valid s.prepared x low high);
  block_is = λ x low high. ap (λ (k : Kind). k.block) (kind_is s.valid s.prepared x low high);
}

pub blocks : (s : Setup) → Blocks (problem s.queue) s.layout
blocks s = blocks_of (numbers s)

pub running : (s : Setup) {k : JobsLeft} → LeftAt (problem s.queue) k.left k.index → Running (problem s.queue) s.layout k
running s w = record { left_at = w; numbers = numbers s }
