-- Feasible states (01: kept). Nothing is asked of the places before a state's own, nor of what its job follows.
use Rattle.std.specs.Prelude.{List, ◌≡◌, ℕ, suc, T as Is}
use Rattle.sequencing.specs.Lists.{at, count}
use Rattle.sequencing.specs.Problem.{Problem}
use Rattle.sequencing.specs.Orders.{PlacesPermitted, SuccessionsPermitted}
use Rattle.sequencing.specs.States.{job, place, by_hand_in}

-- 01's kept state: its job is permitted at its place, and some sequence of the jobs left, each kind by hand-in, fills the later places, all permitted;
-- and 02's way on without a never: from L on no succession of that sequence is forbidden
pub record Feasible (P : Problem) (L : ℕ) (k : List ℕ) : Type 0 where
  pub here : Is (P.ok (job P L k) (place P k))
  pub sequence : List ℕ
  pub uses : (j : ℕ) → count j sequence ≡ at k j
  pub later : PlacesPermitted P (suc (place P k)) (by_hand_in P k sequence)
  pub successions : SuccessionsPermitted P L sequence
