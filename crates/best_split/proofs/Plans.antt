-- The split plan of a queue that has a split: it is within its bounds, its message is short, and it is the best split.
-- Assumes nothing.
use Prim.Native.Nat.{ℕ, ◌+◌, ◌-◌, ◌≤◌, ◌<◌}
use mathlib.Core.List.{List, ◌++◌}
use mathlib.Core.Option.{some}
use mathlib.Core.Path.{◌≡◌, refl, sym, ◌∙◌}
use native.Mathlib.Omega.{arith}
use lib.ListN.{length, get_or, length-append, get_or-append}
use lib.Seq.{get_or-append-add}
use Rattle.fields.proofs.Tables.{tabulate_same}
use Rattle.fields.proofs.Arrays.{tabulate_list}
use Rattle.queue.specs.declared.Queue.{Queue}
use Rattle.queue.specs.Record.{Valid}
use Rattle.split_plan.specs.Record.{job, job_list, cutter_of, Numbered, Bounded}
use Rattle.split_plan.specs.Writing.{message}
use Rattle.split_plan.proofs.Cutters.{held}
use Rattle.split_plan.proofs.Lengths.{message_length}
use Rattle.sequencing.specs.Problem.{Problem}
use Rattle.problem.specs.OfQueue.{problem}
use Rattle.problem.proofs.Rule.{proper, few_jobs}
use Rattle.splitting.specs.Splits.{IsSplit, split_cost}
use Rattle.splitting.specs.Taken.{taken_cost, taken_counts, first_order, second_order}
use Rattle.splitting.proofs.Best.{taken, is_split, split_permitted, split_costs, split_least}
use Rattle.splitting.proofs.Queues.{taken_fits}
use Rattle.best_order.proofs.Orders.{order_in}
use Rattle.best_split.specs.Endings.{best_split}
use Rattle.best_split.specs.BestSplit.{BestSplitPlan}

-- the numbers of a cutter's jobs are those of its list
numbered : (o : List ℕ) → length o ≤ 60 → ((a : ℕ) → a < length o → get_or o a 0 ≤ 60) → Numbered (cutter_of o)
numbered o few small place l u =
    rw (tabulate_same (job (cutter_of o)) (λ k. get_or o (k - 1) 0) 1 (length o) (held o few ∙ sym (tabulate_list o 0 1)) place l (omega arith))
    (small (place - 1) (omega arith))

module _ (q : Queue) (v : Valid q) (s c : ℕ) (e : taken_cost (problem q) s ≡ some c) where
  abbrev P : Problem
  P = problem q

  abbrev o₁ : List ℕ
  o₁ = first_order P s

  abbrev o₂ : List ℕ
  o₂ = second_order P s

  split : IsSplit P o₁ o₂
  split = is_split P (proper q v) s c e

  long : length o₁ + length o₂ ≤ 60
  long = omega (arith, length-append o₁ o₂, split.whole, few_jobs q v)

  -- each cutter's list of jobs is the order of its share
  first : job_list (best_split q s c).first ≡ o₁
  unfolding best_split
  first = held o₁ (omega (arith, long))

  second : job_list (best_split q s c).second ≡ o₂
  unfolding best_split
  second = held o₂ (omega (arith, long))

  own : split_cost P s o₁ o₂ ≡ c
  own = split_costs P (proper q v) s c e

  module _ (h : s ≤ q.kinds) where
    pub bounded_split : Bounded (best_split q s c)
    unfolding best_split
    bounded_split = record {
      goal = omega (arith, v.goal);
      cost = (taken_fits q v s h c e).1;
      jobs = long;
      first = numbered o₁ (omega (arith, long)) (λ a l.
          omega (arith, order_in P (o₁ ++ o₂) split a (omega (arith, length-append o₁ o₂)), get_or-append o₁ o₂ 0 a l, few_jobs q v));
      second = numbered o₂ (omega (arith, long)) (λ a l.
          omega (arith, order_in P (o₁ ++ o₂) split (length o₁ + a) (omega (arith, length-append o₁ o₂)), get_or-append-add o₁ o₂ a 0, few_jobs q v));
    }

    pub split_short : length (message (best_split q s c)) ≤ 72
    split_short = message_length (best_split q s c) bounded_split

    pub has_best_split : BestSplitPlan P s (best_split q s c)
    unfolding best_split first_order second_order
    has_best_split = record {
      bounded = bounded_split;
      goal = refl;
      counts = taken_counts P s;
      taken = taken P (proper q v) s c e;
      first = first;
      second = second;
      split = rw (first, second) split;
      permitted = rw (first, second) (split_permitted P (proper q v) s c e);
      best = λ a b i g. rw (first, second, own) (split_least P (proper q v) s c e a b i g);
      own_cost = rw (first, second) (sym own);
    }
