-- 17 or the split plan, by what the search found in the filled table and by both orders.
-- Assumes nothing.
use Rattle.std.specs.Prelude.{Ok, Some, Option as Answer}
use Prim.Native.Nat.{ℕ, ◌+◌, ◌-◌, ◌≤◌}
use mathlib.Core.List.{List}
use mathlib.Core.Path.{◌≡◌, sym, ap, ◌∙◌}
use native.Mathlib.Omega.{arith}
use lib.ListN.{length, length-append}
use lib.Seq.{sets}
use Rattle.units.specs.Costs.{number_of}
use Rattle.fields.specs.Lists.{filled}
use Rattle.queue.specs.declared.Queue.{Queue}
use Rattle.queue.specs.Record.{Valid}
use Rattle.split_plan.specs.declared.SplitPlan.{SplitPlan}
use Rattle.split_plan.specs.Writing.{message}
use Rattle.sequencing.specs.Problem.{Problem}
use Rattle.sequencing.specs.Entries.{FilledTable}
use Rattle.problem.specs.OfQueue.{problem}
use Rattle.problem.proofs.Rule.{jobs_is, proper}
use Rattle.splitting.specs.Taken.{taken_cost, first_order, second_order}
use Rattle.splitting.proofs.Best.{is_split, first_long}
use Rattle.split_search.specs.declared.Split.{Split}
use Rattle.layout.specs.declared.Setup.{Setup}
use Rattle.split_search.specs.declared.Bench.{Bench}
use Rattle.split_search.specs.Searching.{Best, IsBest}
use Rattle.best_order.proofs.Ends.{Ends}
use Rattle.best_split.specs.Endings.{best_split, divided}
use Rattle.best_split.proofs.Plans.{split_short}

-- what the search of a bench found, for its queue and second start kind
module _ (b : Bench) {s : Setup} {second : ℕ} {answer : Answer Split} (found : IsBest b.filled.setup.now.queue b.second answer)
    (same : b.filled.setup.now ≡ s) (start : b.second ≡ second) where
  pub best_of : (r : Split) → answer ≡ Some r → Best s.queue second r
  best_of r e = let best = rw e at found in rw (← same, ← start) best

module _ {q : Queue} (v : Valid q) {second : ℕ} (second_in : second ≤ q.kinds) {table table' : List ℕ} (fills : FilledTable (problem q) table table') where
  abbrev P : Problem
  P = problem q

  module _ {r : Split} (best : Best q second r) where
    -- as many jobs as each cutter's order has
    first_jobs : r.first.jobs ≡ length (first_order P second)
    first_jobs = best.jobs_are ∙ sym (first_long P (proper q v) second (number_of r.cost) best.cost_is)

    all_jobs : length (first_order P second) + length (second_order P second) ≡ q.jobs
    all_jobs = sym (length-append (first_order P second) (second_order P second))
        ∙ (is_split P (proper q v) second (number_of r.cost) best.cost_is).whole ∙ jobs_is q

    pub few_jobs : r.first.jobs ≤ q.jobs
    few_jobs = omega (arith, first_jobs, all_jobs)

    module _ {o₁ o₂ : List ℕ} {cost : ℕ} (cost_is : cost ≡ number_of r.cost) (first_is : o₁ ≡ filled 60 (first_order P second))
        (second_is : o₂ ≡ filled 60 (second_order P second)) where
      -- the split plan of what was found
      abbrev plan : SplitPlan
      plan = record { goal = q.goal; cost = cost; first = record { jobs = r.first.jobs; order = o₁ }; second = record { jobs = q.jobs - r.first.jobs; order = o₂ } }

      is_best : plan ≡ best_split q second (number_of r.cost)
      unfolding best_split
      is_best = let others : q.jobs - r.first.jobs ≡ length (second_order P second) = omega (arith, first_jobs, all_jobs) in
          rw (cost_is, first_is, second_is, others, first_jobs)

      -- it can be written
      pub may_write : (room : ℕ) → 77 ≤ room → (plan.first.jobs ≤ 60) × (plan.second.jobs ≤ 60) × (length (message plan) ≤ room)
      may_write room h =
          let fits = split_short q v second (number_of r.cost) best.cost_is second_in in
          (omega (arith, few_jobs, v.jobs), omega (arith, v.jobs), rw is_best (omega (arith, fits)))

      pub ends_split : (buffer : List ℕ) {buffer' : List ℕ} {n : ℕ} → n ≡ length (message plan) → buffer' ≡ sets buffer 0 (message plan)
          → Ends (divided q second (taken_cost P second)) (Ok n) table buffer table' buffer'
      ends_split buffer e h =
          rw best.cost_is (
            ap Ok (e ∙ ap (λ (p : SplitPlan). length (message p)) is_best),
            (fills, h ∙ ap (λ (p : SplitPlan). sets buffer 0 (message p)) is_best),
          )
