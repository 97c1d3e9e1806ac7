-- Filling, k by k: the loop's invariant, and what a turn does.
-- Assumes nothing.
use Prim.Native.Nat.{ℕ, suc, ◌+◌, ◌-◌, ◌*◌, ◌%◌, ◌^◌, ◌≤◌, ◌<◌}
use mathlib.Core.List.{List, map}
use mathlib.Core.Logic.{inl, inr}
use mathlib.Core.Path.{◌≡◌, refl, sym, ap, ◌∙◌}
use native.Mathlib.Nat.{zero-add, mul_comm, mul-le-mul, suc-mul, eq-or-lt_of_le}
use native.Mathlib.Numerals.{add-one}
use native.Mathlib.Omega.{arith}
use lib.Arith.{digits_mod}
use lib.ListN.{length, get_or, take, replicate}
use Rattle.queue.specs.declared.Queue.{Queue}
use Rattle.sequencing.specs.Lists.{from, upto, sum}
use Rattle.sequencing.specs.States.{all_left}
use Rattle.sequencing.specs.Recursion.{value}
use Rattle.sequencing.specs.Entries.{digits, number, block, entries, stored, FilledTable}
use Rattle.sequencing.specs.Counts.{valued, feasible_states}
use Rattle.sequencing.proofs.Options.{found_most}
use Rattle.sequencing.proofs.Sums.{sum_more, sum_same, sum_most}
use Rattle.problem.specs.OfQueue.{problem}
use Rattle.problem.proofs.Queues.{counted_by_left}
use Rattle.problem.proofs.Sizes.{entries_small}
use Rattle.jobs_left.specs.declared.JobsLeft.{JobsLeft}
use Rattle.jobs_left.specs.declared.Kind.{Kind}
use Rattle.jobs_left.specs.Kinds.{weights_of}
use Rattle.jobs_left.specs.Steps.{Summed, LeftOf}
use Rattle.jobs_left.proofs.Stepping.{Stepped}
use Rattle.layout.specs.declared.Setup.{Setup}
use Rattle.next_states.proofs.Numbers.{number_at}
use Rattle.filling.specs.Filling.{Earlier, in_place, StatesStored, entry_from, Fillable}
use Rattle.filling.proofs.Values.{TableAt}
use Rattle.filling.proofs.Entered.{PlacesOf, fillable, entry_is_value}
use Rattle.filling.proofs.Counting.{kinds_of, Counting, counting_none, left_here, counting_more}
use Rattle.filling.proofs.Tables.{entry_below, filled_table}

-- the states with index i that are feasible
abbrev counted_at : Queue → ℕ → ℕ
counted_at q i = sum (map (λ L. valued (value (problem q) L (digits (all_left (problem q)) i))) (upto q.kinds))

-- the k before this one are filled, and their feasible states counted
pub record UpTo (q : Queue) (table₀ table : List ℕ) (feasible : ℕ) (k : JobsLeft) (here : ℕ) : Type 0 where
  pub long : length table ≡ length table₀
  pub counting : Counting q k
  pub done : Earlier (problem q) table k.index
  pub past : (n : ℕ) → entries (problem q) ≤ n → get_or table n 0 ≡ get_or table₀ n 0
  pub counted : feasible ≡ sum (map (counted_at q) (from 0 k.index))
  pub place_is : here ≡ 2 ^ (q.jobs - k.jobs)

count_most : (q : Queue) (i : ℕ) → counted_at q i ≤ q.kinds
count_most q i =
    omega (arith, sum_most (λ L. valued (value (problem q) L (digits (all_left (problem q)) i))) 1 1 q.kinds (λ L _ _. found_most (value (problem q) L (digits (all_left (problem q)) i))))

module _ (s : Setup) where
  abbrev q : Queue
  q = s.queue

  pub upto_none : {table₀ : List ℕ} {here : ℕ} → here ≡ 2 ^ s.layout.size.jobs → UpTo q table₀ table₀ 0 (record { left = replicate 5 0; index = 0; jobs = 0; weight = 0 }) here
  unfolding from sum
  upto_none e = record {
    long = refl;
    counting = counting_none s.valid;
    done = λ L j a u h. absurd (omega arith);
    past = λ n h. refl;
    counted = refl;
    place_is = e ∙ ap (λ (n : ℕ). 2 ^ n) (omega (arith, s.prepared.jobs_are));
  }

  module _ {table₀ table : List ℕ} {feasible : ℕ} {k : JobsLeft} {here : ℕ} (w : UpTo q table₀ table feasible k here) (h : k.index < s.layout.size.block) where
    in_here : k.index < block (problem q)
    in_here = omega (arith, s.prepared.block_is)

    left_of : LeftOf (problem q) k
    left_of = left_here s.valid s.prepared w.counting h

    -- the table as the states of this k see it
    seen : TableAt q table k.left k.index
    seen = record { valid = s.valid; earlier = w.done; left_at = left_of.left_at }

    -- the place of the jobs just cut, by what is prepared
    pub here_is : here ≡ 2 ^ (s.layout.size.jobs - k.jobs)
    here_is = w.place_is ∙ ap (λ (n : ℕ). 2 ^ n) (omega (arith, s.prepared.jobs_are))

    -- what filling them may rely on
    pub fills : Fillable q table k
    fills = fillable s seen left_of

    -- where (L; k) stands
    entry_at : (L : ℕ) → 1 ≤ L → number (problem q) L (digits (all_left (problem q)) k.index) ≡ (L - 1) * block (problem q) + k.index
    entry_at L a = let e : suc (L - 1) ≡ L = omega arith in rw e at (number_at (problem q) (L - 1) k.index in_here)

    -- entries of other indices stand elsewhere
    apart : (L M j : ℕ) → j < k.index → (L - 1) * block (problem q) + j ≡ (M - 1) * block (problem q) + k.index → ⊥
    apart L M j b e =
        let same : j ≡ k.index = sym (digits_mod (L - 1) {m = block (problem q)} (omega (arith, in_here))) ∙ ap (λ (n : ℕ). n % block (problem q)) e ∙ digits_mod (M - 1) in_here in
        omega arith

    module _ (places : List ℕ) {table' : List ℕ} {more : ℕ} (sets : PlacesOf s places)
        (f : StatesStored (problem q) (entry_from q table k (in_place k.left s.layout.kinds places here)) table k.index table' more) where
      is_value : (L : ℕ) → 1 ≤ L → L ≤ q.kinds → entry_from q table k (in_place k.left s.layout.kinds places here) L ≡ value (problem q) L (digits (all_left (problem q)) k.index)
      is_value = entry_is_value s seen left_of places sets w.place_is

      more_is : more ≡ counted_at q k.index
      more_is =
          f.many
          ∙ sum_same _ (λ L. valued (value (problem q) L (digits (all_left (problem q)) k.index))) 1 q.kinds (λ L a b. ap valued (is_value L a (omega arith)))

      stored_so_far : Earlier (problem q) table' (suc k.index)
      stored_so_far L j a u b = elim (eq-or-lt_of_le {n = j} {m = k.index} (omega arith)) [
        | inl e ↦ rw e (ap (λ (n : ℕ). get_or table' n 0) (sym (entry_at L a)) ∙ f.filled_at L a u ∙ ap stored (is_value L a u))
        | inr c ↦ f.rest ((L - 1) * block (problem q) + j) (λ M b _ e. apart L M j c (e ∙ entry_at M b)) ∙ w.done L j a u c
      ]

      pub count_fits : feasible + more < 2 ^ 64
      count_fits =
          omega (
            arith,
            w.counted,
            more_is,
            sum_most (counted_at q) q.kinds 0 k.index (λ j _ _. count_most q j),
            count_most q k.index,
            suc-mul k.index q.kinds,
            mul-le-mul {n₁ = suc k.index} {m₁ = q.kinds} {n₂ = block (problem q)} {m₂ = q.kinds} in_here (omega arith),
            mul_comm (block (problem q)) q.kinds,
            entries_small q s.valid,
          )

      pub upto_more : {kinds : List Kind} → kinds ≡ kinds_of q → (k' : JobsLeft) {here' : ℕ}
          → Stepped kinds k.left k'.left → Summed (weights_of kinds) (take (length kinds) k'.left) k'.jobs k'.weight → k'.index ≡ k.index + 1
          → here' ≡ 2 ^ (s.layout.size.jobs - k'.jobs) → UpTo q table₀ table' (feasible + more) k' here'
      upto_more kinds_are k' stepped summed e there =
          let on : k'.index ≡ suc k.index = e ∙ add-one k.index in
          record {
            long = f.long ∙ w.long;
            counting = counting_more s.valid s.prepared w.counting h kinds_are k' stepped summed on;
            done = rw on stored_so_far;
            past = λ n b. f.rest n (λ L a u e. omega (arith, entry_below (problem q) L k.index a u in_here, entry_at L a, e)) ∙ w.past n b;
            counted = rw (on, sum_more, zero-add k.index) (omega (arith, w.counted, more_is));
            place_is = there ∙ ap (λ (n : ℕ). 2 ^ n) (omega (arith, s.prepared.jobs_are));
          }

  -- all are filled
  pub upto_done : {table₀ table : List ℕ} {feasible : ℕ} {k : JobsLeft} {here : ℕ} → UpTo q table₀ table feasible k here → k.index ≡ s.layout.size.block
      → FilledTable (problem q) table₀ table × (feasible ≡ feasible_states (problem q))
  upto_done {table₀} {table} w h =
      let e = h ∙ s.prepared.block_is in
      (filled_table (problem q) table₀ table w.long (rw e at w.done) w.past, w.counted ∙ rw e (counted_by_left q s.valid))
