-- The plan of a queue that has a best cost: it is valid, its message is read as it, and it is the best plan.
-- Assumes nothing.
use Rattle.refusal.specs.Answers.{Accepted}
use Prim.Native.Nat.{ℕ, ◌-◌, ◌^◌, ◌≤◌, ◌<◌}
use mathlib.Core.List.{List}
use mathlib.Core.Option.{some}
use mathlib.Core.Path.{◌≡◌, refl, sym, ap, ◌∙◌}
use native.Mathlib.Omega.{arith}
use lib.ListN.{length, get_or}
use Rattle.queue.specs.declared.Queue.{Queue}
use Rattle.queue.specs.Record.{Valid}
use Rattle.plan.specs.Record.{job, job_list, Valid as PlanValid}
use Rattle.plan.specs.Reading.{plan_of, read_plan}
use Rattle.plan.specs.Writing.{message}
use Rattle.plan_laws.proofs.JobLists.{held, job_listed}
use Rattle.plan_laws.proofs.Theorems.{written_read}
use Rattle.sequencing.specs.Problem.{Problem}
use Rattle.sequencing.specs.Orders.{IsOrder, cost}
use Rattle.sequencing.specs.Recursion.{plan_cost, plan_order}
use Rattle.sequencing.specs.Entries.{entries, entry}
use Rattle.sequencing.specs.Counts.{valued, feasible_states}
use Rattle.sequencing.proofs.Best.{plan_kinds_lem}
use Rattle.sequencing.proofs.Sums.{sum_most}
use Rattle.sequencing.proofs.Options.{found_most}
use Rattle.problem.specs.OfQueue.{problem}
use Rattle.problem.proofs.Rule.{jobs_is, proper}
use Rattle.problem.proofs.Queues.{planned, none_cheaper, ties, cost_fits, counted}
use Rattle.problem.proofs.Sizes.{entries_small}
use Rattle.best_order.specs.Endings.{best_plan}
use Rattle.best_order.specs.BestOrder.{BestPlan}
use Rattle.best_order.proofs.Orders.{order_in, order_once}

module _ (q : Queue) (v : Valid q) (c : ℕ) (e : plan_cost (problem q) ≡ some c) where
  abbrev P : Problem
  P = problem q

  abbrev o : List ℕ
  o = plan_order P

  is_order : IsOrder P o
  is_order = (planned q v c e).0

  long : length o ≡ q.jobs
  long = is_order.whole ∙ jobs_is q

  pub listed : job_list (best_plan q c) ≡ o
  unfolding best_plan
  listed = held q.goal c (feasible_states P) q.jobs o long v.jobs

  few_states : feasible_states P < 2 ^ 42
  unfolding feasible_states
  few_states = omega (arith, sum_most (λ n. valued (entry P n)) 1 0 (entries P) (λ n _ _. found_most (entry P n)), entries_small q v)

  abbrev at_place : (place : ℕ) → 1 ≤ place → place ≤ q.jobs → job (best_plan q c) place ≡ get_or o (place - 1) 0
  unfolding best_plan
  at_place place l u = sym (job_listed (best_plan q c) place l u) ∙ ap (λ (js : List ℕ). get_or js (place - 1) 0) listed

  pub valid_plan : PlanValid (best_plan q c)
  unfolding best_plan
  valid_plan = record {
    goal = v.goal;
    cost = (cost_fits q v c e).1;
    states = few_states;
    jobs = v.jobs;
    in_range = λ place l u.
        rw (at_place place l u) (let i = order_in P o is_order (place - 1) (omega (arith, long)) in (i.0, omega (arith, i.1, jobs_is q)));
    once = λ place later l m u s.
        order_once P o is_order (place - 1) (later - 1) (omega arith) (omega (arith, long)) (sym (at_place place l (omega arith)) ∙ s ∙ at_place later (omega arith) u);
  }

  -- read again, its message is the plan
  pub read_again : read_plan (message (best_plan q c)) ≡ record { verdict = Accepted; plan = best_plan q c }
  unfolding best_plan
  read_again =
      written_read (best_plan q c) valid_plan
      ∙ ap (λ (js : List ℕ). record { verdict = Accepted; plan = plan_of q.goal c (feasible_states P) q.jobs js }) listed

  own : cost P o ≡ c
  own = (planned q v c e).2

  pub best_plan_lem : BestPlan P (record { verdict = Accepted; plan = best_plan q c })
  unfolding best_plan
  best_plan_lem = record {
    accepted = refl;
    goal = refl;
    recursion = listed;
    ties = rw (listed, plan_kinds_lem P (proper q v) c e) (ties q v c e);
    order = rw listed is_order;
    permitted = rw listed (planned q v c e).1;
    best = λ o' i p. rw (listed, own) (none_cheaper q v c e o' i p);
    own_cost = rw listed (sym own);
    kept = counted q v;
  }
