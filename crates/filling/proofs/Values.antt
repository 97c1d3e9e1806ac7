-- What the code computes from the table's earlier entries is the recursion's.
-- Assumes nothing.
use Prim.Native.Nat.{ℕ, ◌+◌, ◌-◌, ◌*◌, ◌^◌, ◌≤◌, ◌<◌}
use mathlib.Core.List.{List}
use mathlib.Core.Logic.{inl, inr, ◌≢◌}
use mathlib.Core.Option.{Option, none, some}
use mathlib.Core.Path.{◌≡◌, sym, ap, ◌∙◌}
use native.Mathlib.Nat.{eq-zero-or-pos}
use native.Mathlib.Omega.{arith}
use lib.Dec.{eqb, ltb}
use lib.ListN.{get_or}
use borrow.Author.Tests.{ltb-true}
use Rattle.number.proofs.Steps.{bool_cases}
use Rattle.units.specs.declared.Seconds.{Seconds}
use Rattle.gaps.specs.declared.Gap.TheVariants.{Lasting}
use Rattle.gaps.specs.Gaps.{gap_at, gap_between, seconds_of}
use Rattle.gaps.proofs.Gaps.{gap_le}
use Rattle.queue.specs.declared.Queue.{Queue}
use Rattle.queue.specs.Record.{Valid}
use Rattle.sequencing.specs.Lists.{at, sum}
use Rattle.sequencing.specs.States.{complete, all_left}
use Rattle.sequencing.specs.Least.{least, arg_least}
use Rattle.sequencing.specs.Recursion.{W, value, choice}
use Rattle.sequencing.specs.Entries.{digits, number, stride, block, stored}
use Rattle.sequencing.proofs.AllJobs.{length_all, left_small}
use Rattle.sequencing.proofs.Bounds.{weigh_le}
use Rattle.sequencing.proofs.Entries.{left_digits}
use Rattle.sequencing.proofs.JobsLeft.{next_pair}
use Rattle.sequencing.proofs.Least.{least_ext, arg_ext}
use Rattle.sequencing.proofs.Options.{plus_gap_none}
use Rattle.sequencing.proofs.Radix.{stride_pos}
use Rattle.sequencing.proofs.Vectors.{at_in}
use Rattle.problem.specs.OfQueue.{problem}
use Rattle.problem.proofs.Bounds.{choice_limit, limit_fits}
use Rattle.problem.proofs.Queues.{value_fits}
use Rattle.problem.proofs.Rule.{few_jobs}
use Rattle.jobs_left.specs.Steps.{LeftAt}
use Rattle.jobs_left.proofs.LeftAt.{left_in, complete_digits}
use Rattle.next_states.specs.NextStates.{loaded, next_values, candidate, Ready}
use Rattle.next_states.proofs.Numbers.{left_is, stride_below, number_next}
use Rattle.next_states.proofs.Stored.{fits, loaded_stored, least_past, arg_past}
use Rattle.next_states.proofs.Candidates.{loaded_next}
use Rattle.filling.specs.Filling.{Earlier}

-- ---- a table, looked at from one k

-- the entries of the indices before i are filled, and `left` holds the k of index i
pub record TableAt (q : Queue) (table left : List ℕ) (i : ℕ) : Type 0 where
  pub valid : Valid q
  pub earlier : Earlier (problem q) table i
  pub left_at : LeftAt (problem q) left i

module _ {q : Queue} {table left : List ℕ} {i : ℕ} (s : TableAt q table left i) where
  abbrev k : List ℕ
  k = digits (all_left (problem q)) i

  abbrev next : List ℕ
  next = next_values (problem q) table k

  -- what the table holds for the next state by way of x, at 01's number of it, is its value
  next_entry : (x : ℕ) → 0 < at k x → loaded (get_or table (number (problem q) x (complete k x)) 0) ≡ value (problem q) x (complete k x)
  next_entry x h =
      let P = problem q in
      let low = (at_in k x h).0 in
      let left_one : 0 < at left x = omega (arith, left_is s.left_at x low) in
      let high = (left_in s.left_at x left_one).1 in
      let j = i - stride (all_left P) x in
      let earlier : j < i = omega (arith, stride_below P i x x s.left_at.within h (omega arith), stride_pos (all_left P) x low (omega (arith, length_all P))) in
      let entry : get_or table ((x - 1) * block P + j) 0 ≡ stored (value P x (complete k x)) = s.earlier x j low high earlier ∙ ap (λ (k' : List ℕ). stored (value P x k')) (complete_digits s.left_at x low high left_one) in
      let pair = next_pair P k x (left_digits P i) h in
      rw (number_next P i x s.left_at.within h, entry)
      (loaded_stored (value P x (complete k x)) (fits (value P x (complete k x)) (λ c e. (value_fits q s.valid x (complete k x) c pair e).2)))

  -- a kind whose next state has a value has a job left, so it is one of the N
  one_of : (x : ℕ) → 1 ≤ x → x ≤ 5 → loaded (at next x) ≢ none → x ≤ q.kinds
  one_of x a b found = elim (eq-zero-or-pos (at k x)) [
    | inl e ↦ absurd (found (loaded_next (problem q) table k x a b ∙ rw e))
    | inr h ↦ (left_in s.left_at x (omega (arith, left_is s.left_at x a))).1
  ]

  -- at most sixty jobs are left, and a thousand pupils wait for each
  light : W (problem q) k < 2 ^ 16
  unfolding W
  light =
      let few : sum k ≤ 60 = omega (arith, left_small (problem q) k (left_digits (problem q) i), few_jobs q s.valid) in
      let most = weigh_le (problem q).weight 1000 k (λ j a u. s.valid.weights j a (omega (arith, (left_digits (problem q) i).long))) in
      elim (bool_cases (eqb q.goal 1)) [ inl e ↦ rw e (omega arith) | inr e ↦ rw e (omega (arith, most)) ]

  -- from a row
  module _ (row : ℕ) where
    abbrev candidate_from : ℕ → Option ℕ
    candidate_from = candidate next q.gaps row (W (problem q) k)

    -- what a next kind comes to, by the table, is the recursion's choice
    candidate_is : (x : ℕ) → 1 ≤ x → x ≤ 5 → candidate_from x ≡ choice (problem q) row k x
    unfolding choice
    candidate_is x a b =
        rw (loaded_next (problem q) table k x a b)
        (elim (bool_cases (ltb 0 (at k x))) [ inl e ↦ rw (e, next_entry x (ltb-true 0 (at k x) e)) | inr e ↦ rw e (plus_gap_none (W (problem q) k) (gap_between q.gaps row x)) ])

    -- there are N kinds
    choice_past : (x : ℕ) → q.kinds < x → choice (problem q) row k x ≡ none
    unfolding choice
    choice_past x h = let e : at k x ≡ 0 = sym (left_is s.left_at x (omega arith)) ∙ s.left_at.past x h in rw e

    five : q.kinds + (5 - q.kinds) ≡ 5
    five = omega (arith, s.valid.kinds)

    pub least_is : least candidate_from 5 ≡ least (choice (problem q) row k) q.kinds
    least_is =
        least_ext candidate_from (choice (problem q) row k) 5 candidate_is
        ∙ ap (least (choice (problem q) row k)) (sym five)
        ∙ least_past (choice (problem q) row k) q.kinds (5 - q.kinds) (λ x h _. choice_past x h)

    pub taken_is : (c : ℕ) → least (choice (problem q) row k) q.kinds ≡ some c → arg_least candidate_from 5 ≡ arg_least (choice (problem q) row k) q.kinds
    taken_is c e =
        arg_ext candidate_from (choice (problem q) row k) 5 candidate_is
        ∙ ap (arg_least (choice (problem q) row k)) (sym five)
        ∙ arg_past (choice (problem q) row k) q.kinds (5 - q.kinds) (λ x h _. choice_past x h) c e

    -- each gap to a kind of the N has 16 bits
    short : row ≤ q.kinds → (x : ℕ) → 1 ≤ x → x ≤ q.kinds → (t : Seconds) → gap_between q.gaps row x ≡ Lasting t → t.0 < 2 ^ 16
    short u x a b t e = omega (arith, gap_le (gap_at q.gaps row x) (s.valid.gaps row x u a b), ap seconds_of e)

    -- and 64 bits hold it
    pub ready : row ≤ q.kinds → Ready next q.gaps row (W (problem q) k)
    ready u = record {
      row_in = omega (arith, s.valid.kinds);
      counted = λ x a b. record {
        light = light;
        short = λ t found. short u x a (one_of x a b found) t;
        small = λ c e. omega (arith, choice_limit q s.valid row k x c u (left_digits (problem q) i) (sym (candidate_is x a b) ∙ e), limit_fits);
      };
    }
