-- The start: all jobs are left, at the last index, and what follows from there is the plan.
-- Assumes nothing.
use Prim.Native.Nat.{ℕ, ◌-◌, ◌≤◌, ◌<◌}
use mathlib.Core.List.{List}
use mathlib.Core.Option.{Option, none, some}
use mathlib.Core.Path.{◌≡◌, refl, sym, ap, ◌∙◌}
use native.Mathlib.Omega.{arith}
use borrow.Author.Tests.{ne_eqb}
use Rattle.std.specs.Prelude.{Some, None}
use Rattle.units.specs.Costs.{cost_in}
use Rattle.fields.specs.Lists.{filled}
use Rattle.queue.specs.declared.Queue.{Queue}
use Rattle.sequencing.specs.Lists.{at, sum}
use Rattle.sequencing.specs.Problem.{Problem}
use Rattle.sequencing.specs.States.{K, all_left}
use Rattle.sequencing.specs.Least.{arg_least}
use Rattle.sequencing.specs.Recursion.{choice, walk, plan_cost, plan_kinds, plan_order}
use Rattle.sequencing.specs.Following.{by_hand_in_upto}
use Rattle.sequencing.specs.Entries.{k_at, block}
use Rattle.sequencing.proofs.AllJobs.{at_all, all_left_lem}
use Rattle.sequencing.proofs.Equations.{plan_some_left}
use Rattle.sequencing.proofs.Recursion.{walk_is, walk_by_lem}
use Rattle.problem.specs.OfQueue.{problem}
use Rattle.jobs_left.specs.declared.JobsLeft.{JobsLeft}
use Rattle.jobs_left.specs.Steps.{LeftOf}
use Rattle.jobs_left.proofs.LeftAt.{left_at}
use Rattle.layout.proofs.AllLeft.{last_is}
use Rattle.next_states.specs.declared.Least.{Least}
use Rattle.next_states.specs.NextStates.{least_answer}
use Rattle.solver.specs.Looking.{next_kind, look}
use Rattle.solver.specs.Solving.{first_choice}
use Rattle.solver.specs.Following.{Takes, Share, Followed}
use Rattle.solver.proofs.Walking.{some_cost, takes_next, upto_all}

module _ (P : Problem) (some-plan : plan_cost P ≡ none → ⊥) where
  -- the first kind can be taken
  pub start_takes : (x : ℕ) → 0 < sum (all_left P) → x ≡ arg_least (choice P P.start (all_left P)) P.N → Takes P (all_left P) x
  start_takes x h e =
      let (c, f) = some_cost (plan_cost P) some-plan in
      rw e (takes_next P P.start (all_left P) c (sym (plan_some_left P h) ∙ f))

  -- the jobs of the walk from the start, all of each kind, are the plan's order
  pub order_is : (upto : List ℕ) → ((x : ℕ) → 1 ≤ x → x ≤ P.N → at upto x ≡ K P x)
      → by_hand_in_upto P upto (all_left P) (walk P (sum (all_left P)) P.start (all_left P)) ≡ plan_order P
  unfolding plan_cost plan_kinds plan_order
  order_is upto all =
      let (c, f) = some_cost (plan_cost P) some-plan in
      upto_all P upto all (all_left P) (walk P (sum (all_left P)) P.start (all_left P)) (all_left_lem P) (walk_is P (sum (all_left P)) P.start (all_left P) c refl f).0

-- what is found there is the plan's cost and its first kind
pub first_found : (q : Queue) → look q q.start (k_at (problem q) (block (problem q) - 1)) ≡ first_choice q
unfolding plan_cost
first_found q = rw (last_is q)

-- where there is a plan, its cost and its first kind are found
pub some_first : (q : Queue) {first : Least} → Some first ≡ first_choice q
    → (c : ℕ) × (plan_cost (problem q) ≡ some c) × (first ≡ record { cost = cost_in q.goal c; kind = next_kind q q.start (all_left (problem q)) })
some_first q {first} e = go (plan_cost (problem q)) e
  where
    go : (v : Option ℕ) → Some first ≡ least_answer (cost_in q.goal) (next_kind q q.start (all_left (problem q))) v
        → (c : ℕ) × (v ≡ some c) × (first ≡ record { cost = cost_in q.goal c; kind = next_kind q q.start (all_left (problem q)) })
    go none e = cc
    go (some c) e = (c, refl, cc)

pub no_first : (q : Queue) → None ≡ first_choice q → plan_cost (problem q) ≡ none
no_first q e = go (plan_cost (problem q)) e
  where
    go : (v : Option ℕ) → None ≡ least_answer (cost_in q.goal) (next_kind q q.start (all_left (problem q))) v → v ≡ none
    go none e = refl
    go (some c) e = cc

-- following from the start
module _ (q : Queue) {all : JobsLeft} (of : LeftOf (problem q) all) (at_last : all.index ≡ block (problem q) - 1) {first : Least} (found : Some first ≡ first_choice q) where
  abbrev P : Problem
  P = problem q

  here : k_at P all.index ≡ all_left P
  here = ap (k_at P) at_last ∙ last_is q

  each : (j : ℕ) → 1 ≤ j → j ≤ q.kinds → at all.left j ≡ K P j
  each j a b = left_at of.left_at j a b ∙ ap (λ k. at k j) here ∙ at_all P j a b

  some-plan : plan_cost P ≡ none → ⊥
  some-plan gone = let (c, e, _) = some_first q found in cc

  first_is : 0 < sum (all_left P) → first.kind ≡ arg_least (choice P q.start (all_left P)) q.kinds
  first_is h = let (_, _, e) = some_first q found in rw (e, ne_eqb (sum (all_left P)) 0 (λ e. omega arith))

  pub start_share : Share q all all.left first.kind
  start_share = record {
    left_at = of.left_at;
    within = λ j a b. (omega arith, omega (arith, each j a b));
    takes = λ h. let some : 0 < sum (all_left P) = rw here at h in rw here (start_takes P some-plan first.kind some (first_is some));
  }

  -- the order followed is the plan's
  pub order_followed : {order : List ℕ} → Followed q all.left all.index first.kind order → order ≡ filled 60 (plan_order P)
  order_followed follows =
      follows
      ∙ rw here (ap (λ (xs : List ℕ). filled 60 (by_hand_in_upto P all.left (all_left P) xs)) (sym (walk_by_lem P (sum (all_left P)) q.start (all_left P) first.kind first_is))
      ∙ ap (filled 60) (order_is P some-plan all.left each))
