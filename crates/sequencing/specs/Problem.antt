-- The queue of document 01, without its bounds and with any place rule.
use Rattle.std.specs.Prelude.{Bool, List, ◌≢◌, ◌≡◌, ℕ, ◌≤◌, ◌<◌, T as Is, length}
use Rattle.gaps.specs.declared.Gap.{Gap}
use Rattle.gaps.specs.declared.Gap.TheVariants.{Never}
use Rattle.sequencing.specs.Lists.{at}

-- 01's N; the jobs' kinds by hand-in; s; gap(i, j), by 02 seconds or never; the goal; w_j (pupils waiting); and whether job i is permitted at place p
pub record Problem : Type 0 where
  pub N : ℕ
  pub jobs : List ℕ
  pub start : ℕ
  pub gap : ℕ → ℕ → Gap
  pub goal : ℕ
  pub weight : ℕ → ℕ
  pub ok : ℕ → ℕ → Bool

module _ (P : Problem) where
  -- 01's T
  abbrev pub T : ℕ
  T = length P.jobs

  -- the kind of job i
  abbrev pub kind : ℕ → ℕ
  kind i = at P.jobs i

  -- each job has a kind of 1 to N
  abbrev pub Proper : Type 0
  Proper = (i : ℕ) → 1 ≤ i → i ≤ T → (1 ≤ kind i) × (kind i ≤ P.N)

  -- each job is permitted at each place from 1 to T
  abbrev pub AllPermitted : Type 0
  AllPermitted = (i p : ℕ) → 1 ≤ i → i ≤ T → 1 ≤ p → p ≤ T → Is (P.ok i p)

  -- nothing is forbidden: each of the kinds 1 to N may come first and may follow each
  abbrev pub NoneForbidden : Type 0
  NoneForbidden = (i j : ℕ) → i ≤ P.N → 1 ≤ j → j ≤ P.N → P.gap i j ≢ Never

  -- the exchange law: two jobs of one kind, permitted with the later one first, are permitted by hand-in too
  abbrev pub Exchange : Type 0
  Exchange =
      (i i' p p' : ℕ) → 1 ≤ i → i < i' → i' ≤ T → kind i ≡ kind i' → p < p' → Is (P.ok i p') → Is (P.ok i' p) → Is (P.ok i p) × Is (P.ok i' p')
