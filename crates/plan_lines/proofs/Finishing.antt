-- The kind of any job, and the finish at a place: each job cut adds the seconds of the gap from the kind before.
-- Assumes nothing.
use Prim.Native.Nat.{ℕ, zero, suc, ◌+◌, ◌-◌, ◌*◌, ◌^◌, ◌≤◌, ◌<◌}
use mathlib.Core.Path.{◌≡◌, refl, sym, ap, ◌∙◌}
use mathlib.Core.List.{List, [], ◌∷◌, map}
use native.Mathlib.Omega.{arith}
use native.Mathlib.Nat.{sub-zero}
use native.Mathlib.Numerals.{add-one}
use lib.ListN.{length, get_or, drop, length-map, get_or-eq_default}
use lib.Seq.{drop-cons}
use Rattle.std.specs.List.{slice_range}
use Rattle.std.proofs.lemmas.List.{get_or-take}
use Rattle.gaps.specs.declared.Gap.{Gap}
use Rattle.gaps.specs.Gaps.{seconds_of}
use Rattle.sequencing.specs.Lists.{at}
use Rattle.sequencing.specs.Problem.{kind as kindIn}
use Rattle.sequencing.specs.Orders.{finishes}
use Rattle.queue.specs.declared.Queue.{Queue}
use Rattle.queue.specs.Record.{kind_list}
use Rattle.problem.specs.OfQueue.{problem}
use Rattle.problem.proofs.Rule.{jobs_is, kind_is}

-- ---- the element at i

pub at_past : (xs : List ℕ) (i : ℕ) → length xs < i → 0 ≡ at xs i
at_past xs zero h = refl
at_past xs (suc i) h = sym (get_or-eq_default xs 0 (omega arith))

-- ---- the kind of a job

module _ (q : Queue) where
  -- a job that the queue does not have
  pub kind_past : (i : ℕ) → q.jobs < i → 0 ≡ kindIn (problem q) i
  kind_past i h = at_past (kind_list q) i (omega (arith, jobs_is q))

  -- any other, job 0 among them, which has none
  pub kind_within : (i : ℕ) → i ≤ q.jobs → at q.job_kinds i ≡ kindIn (problem q) i
  kind_within zero u = refl
  kind_within (suc i) u = ap (λ (k : ℕ). get_or q.job_kinds k 0) (omega arith) ∙ sym (kind_is q (suc i) (omega arith) (omega (arith, jobs_is q)))

-- ---- the finishes

module _ (gap : ℕ → ℕ → Gap) (kind : ℕ → ℕ) (start : ℕ) (o : List ℕ) where
  finishes_length : (L t : ℕ) (xs : List ℕ) → length (finishes gap L t xs) ≡ length xs
  unfolding finishes
  finishes_length L t [] = refl
  finishes_length L t (x ∷ xs) = ap suc (finishes_length x (t + seconds_of (gap L x)) xs)

  -- a place that the order does not have
  pub finish_past : (place : ℕ) → length o < place → 0 ≡ at (finishes gap start 0 (map kind o)) place
  finish_past place h = at_past (finishes gap start 0 (map kind o)) place (omega (arith, finishes_length start 0 (map kind o), length-map o kind))

  -- k jobs are cut, the last of kind L at t: the finish at the place is t, or stands among those of the jobs left
  pub record Cutting (place L t k : ℕ) : Type 0 where
    pub few : k ≤ place
    pub small : t ≤ k * (2 ^ 32 - 1)
    pub rest : at (finishes gap start 0 (map kind o)) place ≡ get_or (t ∷ finishes gap L t (map kind (drop k o))) (place - k) 0

  module _ (place L t k : ℕ) (w : Cutting place L t k) where
    pub cutting_more : (cut : List ℕ) → cut ≡ slice_range o 0 place → length cut + 0 ≡ place → k < length cut → place ≤ length o
        → (x g t' : ℕ) → x ≡ kind (get_or cut k 0) → g ≡ seconds_of (gap L x) → g < 2 ^ 32 → t' ≡ t + g → Cutting place x t' (k + 1)
    unfolding finishes
    cutting_more cut cut-is cut-length h u x g t' xe ge s te =
        let few : k < place = omega arith in
        let e : place - k ≡ suc (place - (k + 1)) = omega arith in
        let d : k < length o = omega arith in
        let here : get_or cut k 0 ≡ get_or o k 0 = rw (cut-is, sub-zero) (get_or-take place o k 0 few) in
        record { few = omega arith; small = omega (arith, w.small); rest = w.rest ∙ rw (e, drop-cons o k 0 d, ← here, ← xe, ← ge, ← te, add-one) }
