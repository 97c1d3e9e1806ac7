-- No kept count passes the number of states, and where everything is permitted it is that number.
-- Assumes nothing.
use Prim.Native.Nat.{ℕ, ◌≤◌}
use Rattle.sequencing.specs.Problem.{Problem, AllPermitted, NoneForbidden}
use Rattle.sequencing.specs.States.{all_left, IsState}
use Rattle.sequencing.specs.Counts.{CountsFeasible}
use Rattle.sequencing.proofs.FeasibleCount.{Kept, as_pairs, count_most}
use Rattle.state_count.specs.StateCount.{most_feasible}
use Rattle.state_count.proofs.States.{states_count}
use Rattle.state_count.proofs.AllFeasible.{all_feasible}

module _ (P : Problem) where
  pub at_most : (n : ℕ) → CountsFeasible P n → n ≤ most_feasible (all_left P)
  at_most n c = count_most (Kept P) (IsState P) n (most_feasible (all_left P)) (as_pairs P n c) (states_count P) (λ L k t. t.0)

  pub all_counted : AllPermitted P → NoneForbidden P → CountsFeasible P (most_feasible (all_left P))
  all_counted permitted free =
      let c = states_count P in
      record {
        states = c.pairs;
        distinct = c.distinct;
        exactly = λ L k. ((λ m. let s = (c.exactly L k).0 m in (s, all_feasible P permitted free L k s)), (λ t. (c.exactly L k).1 t.0));
        many = c.many;
      }
