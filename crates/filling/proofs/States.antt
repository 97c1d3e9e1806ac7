-- The entries of all states with one k, as a loop over the kinds stores them.
-- Assumes nothing.
use Prim.Native.Nat.{ℕ, suc, ◌+◌, ◌-◌, ◌*◌, ◌/◌, ◌^◌, ◌<◌, ◌≤◌}
use mathlib.Core.Bool.{Bool, true, false}
use mathlib.Core.List.{List, map}
use mathlib.Core.Logic.{◌≢◌}
use mathlib.Core.Option.{Option, none, some}
use mathlib.Core.Path.{◌≡◌, refl, sym, ap, ◌∙◌}
use native.Mathlib.Numerals.{add-one}
use native.Mathlib.Omega.{arith}
use lib.Arith.{digits_lt, digits_div}
use lib.ListN.{length, get_or, set, length-set}
use lib.Seq.{get_or-set_same, get_or-set_other}
use borrow.Author.Count.{below_more}
use borrow.Author.Tests.{eq-eqb, ne_eqb}
use Rattle.queue.specs.declared.Queue.{Queue}
use Rattle.sequencing.specs.Lists.{at, from, upto, sum}
use Rattle.sequencing.specs.Problem.{Problem}
use Rattle.sequencing.specs.States.{K}
use Rattle.sequencing.specs.Least.{only}
use Rattle.sequencing.specs.Counts.{valued}
use Rattle.sequencing.specs.Entries.{k_at, number, block, entries, stored}
use Rattle.sequencing.proofs.Entries.{left_digits}
use Rattle.sequencing.proofs.Sums.{sum_more}
use Rattle.sequencing.proofs.Vectors.{at_sum}
use Rattle.problem.specs.OfQueue.{problem}
use Rattle.problem.proofs.Sizes.{entries_small}
use Rattle.jobs_left.specs.declared.JobsLeft.{JobsLeft}
use Rattle.jobs_left.specs.declared.Kind.{Kind}
use Rattle.jobs_left.specs.declared.StepWeight.{StepWeight}
use Rattle.jobs_left.specs.Kinds.{kind_at, step_of, factor}
use Rattle.jobs_left.specs.Steps.{LeftOf}
use Rattle.jobs_left.proofs.Weights.{factor_is}
use Rattle.layout.specs.declared.Setup.{Setup}
use Rattle.layout.proofs.Prepared.{kind_is, slot_in}
use Rattle.next_states.specs.NextStates.{none_of, Ready}
use Rattle.next_states.proofs.Candidates.{loaded_next, length_next, none_least, none_of_lem}
use Rattle.next_states.proofs.Numbers.{number_at, left_is}
use Rattle.filling.specs.declared.Lent.{Lent}
use Rattle.filling.specs.Filling.{value_by, StatesStored, next_of, weight_of, entry_from}

-- an entry stands in one block
same_block : (block l m i : ℕ) → i < block → l * block + i ≡ m * block + i → l ≡ m
same_block block l m i h e = sym (digits_div l h) ∙ ap (λ (n : ℕ). n / block) e ∙ digits_div m h

-- the first kinds have their entries, all else is as in table₀
pub record KindsUpTo (P : Problem) (entry : ℕ → Option ℕ) (i : ℕ) (table₀ table : List ℕ) (feasible kind : ℕ) : Type 0 where
  pub long : length table ≡ length table₀
  pub done : (l : ℕ) → l < kind → get_or table (l * block P + i) 0 ≡ stored (entry (suc l))
  pub rest : (n : ℕ) → ((l : ℕ) → l < kind → n ≢ l * block P + i) → get_or table n 0 ≡ get_or table₀ n 0
  pub many : feasible ≡ sum (map (λ L. valued (entry L)) (upto kind))

pub kinds_none : {P : Problem} {entry : ℕ → Option ℕ} {i : ℕ} {table₀ : List ℕ} → KindsUpTo P entry i table₀ table₀ 0 0
unfolding from sum
kinds_none = record { long = refl; done = λ l h. absurd (omega arith); rest = λ n h. refl; many = refl }

-- a kind of the loop is one of the queue's
pub kind_in : (s : Setup) {kind : ℕ} → kind < s.layout.size.kinds → kind < s.queue.kinds
kind_in s h = omega (arith, s.prepared.kinds_are)

-- its block, from 0, and what the running number makes with it
pub block_fits : (s : Setup) {i kind : ℕ} → i < block (problem s.queue) → kind < s.layout.size.kinds → (kind < 5) × (i + (kind_at s.layout.kinds (suc kind)).block < 2 ^ 64)
block_fits s {i} {kind} within low =
    let h = kind_in s low in
    let e : suc kind - 1 ≡ kind = omega arith in
    let is : (kind_at s.layout.kinds (suc kind)).block ≡ kind * block (problem s.queue) =
    ap (λ (k : Kind). k.block) (kind_is s.valid s.prepared (suc kind) (omega arith) h) ∙ ap (λ (n : ℕ). n * block (problem s.queue)) e in
    let inside : kind * block (problem s.queue) + i < entries (problem s.queue) = digits_lt h within in
    (omega (arith, s.valid.kinds), omega (arith, is, inside, entries_small s.queue s.valid))

-- the lent table is long enough for the queue whose setup is handed beside the loan
pub lent_room : (l : Lent) {s : Setup} → s ≡ l.setup.now → entries (problem s.queue) ≤ length l.table.now
lent_room l e = rw e l.room

-- its entry is in a table that is long enough
pub entry_in : (s : Setup) {i kind at n : ℕ} → i < block (problem s.queue) → entries (problem s.queue) ≤ n → kind < s.layout.size.kinds
    → at ≡ number (problem s.queue) (suc kind) (k_at (problem s.queue) i) → at < n
entry_in s {i} {kind} within room low is =
    let h = kind_in s low in
    let at_is = is ∙ number_at (problem s.queue) kind i within in
    let inside : kind * block (problem s.queue) + i < entries (problem s.queue) = digits_lt h within in
    omega (arith, at_is, inside)

-- one kind more is stored
module _ {P : Problem} {i : ℕ} (within : i < block P) {entry : ℕ → Option ℕ} {table₀ table : List ℕ} {feasible kind : ℕ} (w : KindsUpTo P entry i table₀ table feasible kind)
    {at : ℕ} (is : at ≡ number P (suc kind) (k_at P i)) (inside : at < length table) where
  pub kinds_more : {table' : List ℕ} {one : ℕ} → (table' ≡ set table at (stored (entry (suc kind)))) × (one ≡ valued (entry (suc kind)))
      → KindsUpTo P entry i table₀ table' (feasible + one) (kind + 1)
  kinds_more (holds, count) =
      let value : ℕ = stored (entry (suc kind)) in
      let last : 1 + kind ≡ suc kind = omega arith in
      let there : at ≡ kind * block P + i = is ∙ number_at P kind i within in
      rw holds record {
        long = length-set table at value ∙ w.long;
        done =
            below_more (λ (l : ℕ). get_or (set table at value) (l * block P + i) 0 ≡ stored (entry (suc l))) kind
            (λ l u. get_or-set_other table at (l * block P + i) value 0 (λ q. omega (arith, same_block (block P) l kind i within (q ∙ there))) ∙ w.done l u)
            (ap (λ (m : ℕ). get_or (set table at value) m 0) (sym there) ∙ get_or-set_same table at value 0 inside);
        rest = λ m other. get_or-set_other table at m value 0 (λ q. other kind (omega arith) (q ∙ there)) ∙ w.rest m (λ l u. other l (omega arith));
        many = rw (add-one kind, sum_more, last) (omega (arith, count, w.many));
      }

pub kinds_done : {P : Problem} {i : ℕ} → i < block P → {entry : ℕ → Option ℕ} {table₀ table : List ℕ} {feasible : ℕ} → KindsUpTo P entry i table₀ table feasible P.N → StatesStored P entry table₀ i table feasible
kinds_done {P} {i} within {table = table} w = record {
  long = w.long;
  filled_at = λ L l u. let r : suc (L - 1) ≡ L = omega arith in rw r at (ap (λ (m : ℕ). get_or table m 0) (number_at P (L - 1) i within) ∙ w.done (L - 1) (omega arith));
  rest = λ m other. w.rest m (λ l u q. other (suc l) (omega arith) (omega arith) (q ∙ sym (number_at P l i within)));
  many = w.many;
}

-- ---- the values of one k

-- its slots lie in their array
pub slot_in_places : (s : Setup) {k : JobsLeft} → LeftOf (problem s.queue) k → (x : ℕ) → x < s.queue.kinds → (x < 5) × ((kind_at s.layout.kinds (suc x)).slot + get_or k.left x 0 < 65)
slot_in_places s {k} w x h =
    let is : get_or k.left x 0 ≡ at (k_at (problem s.queue) k.index) (suc x) = left_is w.left_at (suc x) (omega arith) in
    let few : at (k_at (problem s.queue) k.index) (suc x) ≤ K (problem s.queue) (suc x) = (left_digits (problem s.queue) k.index).within (suc x) in
    (omega (arith, s.valid.kinds), rw is (slot_in s.valid s.prepared (suc x) _ (omega arith) h few))

only_none : (b : Bool) → only b none ≡ none
only_none true = refl
only_none false = refl

module _ (q : Queue) (table : List ℕ) (k : JobsLeft) where
  abbrev next : List ℕ
  next = next_of q table k

  -- some next state has a value, so some is left
  some_left : LeftOf (problem q) k → none_of next ≡ false → k.jobs ≢ 0
  some_left w e z =
      none_of_lem next e (λ x l u.
      let none-there : at (k_at (problem q) k.index) x ≡ 0 = omega (arith, at_sum (k_at (problem q) k.index) x, w.jobs_are) in
      loaded_next (problem q) table (k_at (problem q) k.index) x l (omega (arith, length_next (problem q) table (k_at (problem q) k.index))) ∙ rw none-there)

  -- by the next states that were loaded, the gaps that were prepared, and 01's W
  module _ {loaded gaps : List ℕ} {weight : StepWeight} (next_is : loaded ≡ next) (gaps_are : gaps ≡ q.gaps) (weight_is : weight ≡ step_of q.goal k.weight) where
    pub ready_here : {row : ℕ} → Ready next q.gaps row (weight_of q table k) → Ready loaded gaps row (factor weight)
    ready_here r = rw (next_is, gaps_are, weight_is, factor_is q.goal k.weight) r

    -- some next state has a value
    pub entry_value : LeftOf (problem q) k → none_of loaded ≡ false → (permitted : ℕ → Bool) (L : ℕ)
        → value_by loaded gaps (factor weight) (permitted L) L ≡ entry_from q table k permitted L
    unfolding entry_from
    entry_value w e permitted L = rw (next_is, gaps_are, weight_is, factor_is q.goal k.weight, ne_eqb k.jobs 0 (some_left w (rw next_is at e)))

  module _ (permitted : ℕ → Bool) where
    -- nothing is left: 0 where the place is permitted
    pub entry_last : k.jobs ≡ 0 → (L : ℕ) → only (permitted L) (some 0) ≡ entry_from q table k permitted L
    unfolding entry_from
    entry_last e L = rw (eq-eqb k.jobs 0 e)

    -- some is left, and no next state has a value
    pub entry_none : k.jobs ≢ 0 → none_of next ≡ true → (L : ℕ) → none ≡ entry_from q table k permitted L
    unfolding entry_from
    entry_none n e L =
        rw (ne_eqb k.jobs 0 n, none_least next q.gaps L (weight_of q table k) (length_next (problem q) table (k_at (problem q) k.index)) e)
        (sym (only_none (permitted L)))
