-- Following the recursion: the kind taken next, what is found from there, and the jobs of a share.
-- Assumes nothing.
use Prim.Native.Nat.{ℕ, ◌-◌, ◌≤◌, ◌<◌}
use mathlib.Core.List.{List, [], ◌∷◌}
use mathlib.Core.Option.{Option, none, some}
use mathlib.Core.Path.{◌≡◌, refl, sym, ◌∙◌}
use native.Mathlib.Omega.{arith}
use Rattle.sequencing.specs.Lists.{at, sum}
use Rattle.sequencing.specs.Problem.{Problem}
use Rattle.sequencing.specs.States.{complete, K, IsLeft, jobs_of, by_hand_in}
use Rattle.sequencing.specs.Least.{least, arg_least}
use Rattle.sequencing.specs.Recursion.{value, choice}
use Rattle.sequencing.specs.Following.{walk_by, by_hand_in_upto}
use Rattle.sequencing.proofs.Equations.{cost_some_left}
use Rattle.sequencing.proofs.Fills.{Fills}
use Rattle.sequencing.proofs.JobsLeft.{complete_left}
use Rattle.sequencing.proofs.Least.{smallest}
use Rattle.sequencing.proofs.Recursion.{value_some, choice_some, walk_by_lem}
use Rattle.sequencing.proofs.Vectors.{complete_sum, at_in}
use Rattle.std.specs.Prelude.{Some}
use Rattle.units.specs.Costs.{cost_in}
use Rattle.next_states.specs.NextStates.{least_answer}
use Rattle.solver.specs.Following.{Takes}

pub some_cost : (r : Option ℕ) → (r ≡ none → ⊥) → (c : ℕ) × (r ≡ some c)
some_cost none h = absurd (h refl)
some_cost (some c) h = (c, refl)

module _ (P : Problem) where
  -- the recursion's next kind, where it finds something
  pub takes_next : (L : ℕ) (k : List ℕ) (c : ℕ) → least (choice P L k) P.N ≡ some c → Takes P k (arg_least (choice P L k) P.N)
  takes_next L k c e =
      let m = smallest (choice P L k) P.N c e in
      let (d, h, _, v, _) = choice_some P L k (arg_least (choice P L k) P.N) c m.reached in
      record {
        low = m.low;
        high = m.high;
        some_left = h;
        found = λ n. let z : ◌≡◌ {A = ℕ} 0 1 = cc in omega arith;
      }

  -- after a kind that can be taken the recursion finds something
  pub found_after : (k : List ℕ) (x : ℕ) → Takes P k x → 0 < sum (complete k x) → (c : ℕ) × (least (choice P x (complete k x)) P.N ≡ some c)
  found_after k x t h =
      let (c, e) = some_cost (value P x (complete k x)) t.found in
      (c, sym (cost_some_left P x (complete k x) h) ∙ (value_some P x (complete k x) c e).2)

  -- and the answer by the table is its kind
  pub next_found : (goal : ℕ) (k : List ℕ) (x : ℕ) → Takes P k x → 0 < sum (complete k x)
      → (c : ℕ) × (least_answer (cost_in goal) (arg_least (choice P x (complete k x)) P.N) (least (choice P x (complete k x)) P.N) ≡ Some (record { cost = cost_in goal c; kind = arg_least (choice P x (complete k x)) P.N }))
  next_found goal k x t h = let (c, e) = found_after k x t h in (c, rw e)

  module _ (m : List ℕ) where
    -- the jobs of such a walk: the first, and those of the walk from there
    pub by_hand_more : (k : List ℕ) (x y : ℕ) → 0 < at k x → (0 < sum (complete k x) → y ≡ arg_least (choice P x (complete k x)) P.N)
        → by_hand_in_upto P m k (walk_by P (sum k) x k)
        ≡ at (jobs_of P x) (at m x - at (complete k x) x) ∷ by_hand_in_upto P m (complete k x) (walk_by P (sum (complete k x)) y (complete k x))
    unfolding walk_by by_hand_in_upto
    by_hand_more k x y h e = rw (← (complete_sum k x h), walk_by_lem P (sum (complete k x)) x (complete k x) y e)

    pub by_hand_none : (n x : ℕ) (k : List ℕ) → n ≡ 0 → by_hand_in_upto P m k (walk_by P n x k) ≡ []
    unfolding walk_by by_hand_in_upto
    by_hand_none n x k e = rw e

    -- up to the last job of each kind: 01's own order
    pub upto_all : ((x : ℕ) → 1 ≤ x → x ≤ P.N → at m x ≡ K P x) → (k xs : List ℕ) → IsLeft P k → Fills P k xs → by_hand_in_upto P m k xs ≡ by_hand_in P k xs
    unfolding by_hand_in_upto by_hand_in Fills
    upto_all all k [] s f = refl
    upto_all all k (x ∷ xs) s f =
        let b = at_in k x f.0 in
        rw (all x b.0 (omega (arith, s.long)), upto_all all (complete k x) xs (complete_left P k x s f.0) f.2)
