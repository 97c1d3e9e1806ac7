-- Orders of the jobs, which of them are permitted, and what they cost.
use Rattle.std.specs.Prelude.{cond, List, [], ◌∷◌, map, ◌≢◌, ◌≡◌, ℕ, suc, ◌+◌, ◌*◌, ◌≤◌, T as Is, eqb, length}
use Rattle.gaps.specs.declared.Gap.{Gap}
use Rattle.gaps.specs.declared.Gap.TheVariants.{Never}
use Rattle.gaps.specs.Gaps.{seconds_of}
use Rattle.sequencing.specs.Lists.{count}
use Rattle.sequencing.specs.Problem.{Problem, T, kind}

-- the finish at each place of a sequence of kinds, after a finish of kind L at t: each adds the seconds of the gap from the kind before;
-- never would add nothing, and no permitted order has one
unfoldable pub finishes : (ℕ → ℕ → Gap) → ℕ → ℕ → List ℕ → List ℕ
finishes gap L t [] = []
finishes gap L t (x ∷ xs) = (t + seconds_of (gap L x)) ∷ finishes gap x (t + seconds_of (gap L x)) xs

-- 01's last finish, and t where there is none
unfoldable pub makespan : ℕ → List ℕ → ℕ
makespan t [] = t
makespan t (f ∷ fs) = makespan f fs

-- 01's total waiting: the sum of w times finish, kind by kind
unfoldable pub weighted_completion : (ℕ → ℕ) → List ℕ → List ℕ → ℕ
weighted_completion w [] fs = 0
weighted_completion w (x ∷ xs) [] = 0
weighted_completion w (x ∷ xs) (f ∷ fs) = w x * f + weighted_completion w xs fs

module _ (P : Problem) where
  -- 01's order, as the list of the job at each place: one job at each of the T places, and each job at one place
  pub record IsOrder (o : List ℕ) : Type 0 where
    pub whole : length o ≡ T P
    pub once : (i : ℕ) → 1 ≤ i → i ≤ T P → count i o ≡ 1

  -- each job is permitted at its place, the first of them standing at p
  unfoldable pub PlacesPermitted : ℕ → List ℕ → Type 0
  PlacesPermitted p [] = Unit {0}
  PlacesPermitted p (i ∷ o) = Is (P.ok i p) × PlacesPermitted (suc p) o

  -- no kind of a sequence is forbidden right after the one before it, the first of them right after L
  unfoldable pub SuccessionsPermitted : ℕ → List ℕ → Type 0
  SuccessionsPermitted L [] = Unit {0}
  SuccessionsPermitted L (x ∷ xs) = (P.gap L x ≢ Never) × SuccessionsPermitted x xs

  -- 01's permitted order: each job is permitted at its place, from 1 on; and 02's: no succession is never, from the start to the first job included
  pub record Permitted (o : List ℕ) : Type 0 where
    pub places : PlacesPermitted 1 o
    pub successions : SuccessionsPermitted P.start (map (kind P) o)

  -- 01's cost: the last finish under goal 1, the total waiting under goal 2
  unfoldable pub cost : List ℕ → ℕ
  cost o =
      let xs : List ℕ = map (kind P) o in
      let fs : List ℕ = finishes P.gap P.start 0 xs in
      cond (eqb P.goal 1) (makespan 0 fs) (weighted_completion P.weight xs fs)
