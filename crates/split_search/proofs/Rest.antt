-- The second cutter's counts beside the first's: they stand at the index mirrored, with the jobs and the weight that the first's leave.
-- Assumes nothing.
use mathlib.Core.List.{List, [], ◌∷◌}
use mathlib.Core.Logic.{inl, inr}
use mathlib.Core.Path.{◌≡◌, refl, sym, ap, ◌∙◌}
use Prim.Native.Nat.{ℕ, zero, suc, ◌+◌, ◌-◌, ◌≤◌, ◌<◌}
use native.Mathlib.Nat.{add-mul}
use native.Mathlib.Omega.{arith}
use lib.ListN.{length, get_or, take, get_or-eq_default}
use lib.Seq.{length-take-le}
use Rattle.number.proofs.Steps.{below_or_not}
use Rattle.sequencing.specs.Lists.{at, sum, weigh}
use Rattle.sequencing.specs.Problem.{Problem}
use Rattle.sequencing.specs.States.{K, all_left}
use Rattle.sequencing.specs.Entries.{k_at, block}
use Rattle.sequencing.proofs.AllJobs.{at_all, length_all}
use Rattle.sequencing.proofs.Entries.{left_digits}
use Rattle.sequencing.proofs.Vectors.{at_take}
use Rattle.problem.specs.OfQueue.{problem}
use Rattle.splitting.specs.Scan.{others}
use Rattle.splitting.proofs.Lists.{same_at}
use Rattle.splitting.proofs.Counts.{at_others, others_left}
use Rattle.splitting.proofs.ByIndex.{others_at, sum_others}
use Rattle.jobs_left.specs.declared.JobsLeft.{JobsLeft}
use Rattle.jobs_left.specs.Steps.{LeftAt, LeftOf}
use Rattle.jobs_left.proofs.LeftAt.{left_at}
use Rattle.layout.proofs.AllLeft.{last_is}
use Rattle.split_search.specs.declared.Bench.{Bench}

-- ---- weights add up

weigh_rest : (f : ℕ → ℕ) (cs k l : List ℕ) → length k ≡ length cs → length l ≡ length cs
    → ((j : ℕ) → 1 ≤ j → j ≤ length cs → at k j + at l j ≡ at cs j) → weigh f k + weigh f l ≡ weigh f cs
unfolding weigh
weigh_rest f [] [] [] e g h = refl
weigh_rest f [] [] (b ∷ l) e g h = absurd (omega arith)
weigh_rest f [] (a ∷ k) l e g h = absurd (omega arith)
weigh_rest f (c ∷ cs) [] l e g h = absurd (omega arith)
weigh_rest f (c ∷ cs) (a ∷ k) [] e g h = absurd (omega arith)
weigh_rest f (c ∷ cs) (a ∷ k) (b ∷ l) e g h =
    let first : a + b ≡ c = h 1 (omega arith) (omega arith) in
    let later = weigh_rest (λ j. f (suc j)) cs k l (omega arith) (omega arith)
    (elim [ zero ↦ (λ p q. absurd (omega arith)) | suc j ↦ (λ p q. h (suc (suc j)) (omega arith) (omega arith)) ]) in
    rw (← first) (omega (arith, later, add-mul a b (f 1)))

-- ---- the second cutter's counts

module _ (b : Bench) where
  abbrev P : Problem
  P = problem b.filled.setup.now.queue

  all_is : k_at P b.all.index ≡ all_left P
  all_is = rw b.all_index (last_is b.filled.setup.now.queue)

  -- the bench has all jobs of each kind
  pub all_at : (x : ℕ) → 1 ≤ x → x ≤ P.N → at b.all.left x ≡ K P x
  all_at x a u = left_at b.all_left.left_at x a u ∙ ap (λ n. at n x) all_is ∙ at_all P x a u

  module _ {k : JobsLeft} (w : LeftOf P k) where
    -- no more of a kind than there are
    pub within : (j : ℕ) → j < 5 → get_or k.left j 0 ≤ get_or b.all.left j 0
    within j h = elim (below_or_not P.N (suc j)) [
      | inl c ↦ omega (arith, w.left_at.past (suc j) c)
      | inr c ↦ omega (arith, left_at w.left_at (suc j) (omega arith) c, all_at (suc j) (omega arith) c, (left_digits P k.index).within (suc j))
    ]

    pub mirrored_is : b.all.index - k.index ≡ block P - 1 - k.index
    mirrored_is = omega (arith, b.all_index)

    -- the first cutter's sums are parts of all jobs'
    weights_add : k.weight + weigh P.weight (k_at P (b.all.index - k.index)) ≡ b.all.weight
    weights_add =
        let n = k_at P k.index in
        let left-n = left_digits P k.index in
        rw (mirrored_is, others_at P k.index w.left_at.within, w.weight_is, b.all_left.weight_is, all_is)
        (weigh_rest P.weight (all_left P) n (others P n) (left-n.long ∙ sym (length_all P)) ((others_left P n left-n).long ∙ sym (length_all P))
        (λ j a u. let h : j ≤ P.N = omega (arith, length_all P) in omega (arith, at_others P n left-n j a h, at_all P j a h, left-n.within j)))

    jobs_add : k.jobs + sum (k_at P (b.all.index - k.index)) ≡ b.all.jobs
    jobs_add = rw (mirrored_is, w.jobs_are, b.all_left.jobs_are, all_is) (sum_others P k.index w.left_at.within)

    pub sums_within : (k.index ≤ b.all.index) × ((k.jobs ≤ b.all.jobs) × (k.weight ≤ b.all.weight))
    sums_within = (omega (arith, b.all_index, w.left_at.within), (omega (arith, jobs_add), omega (arith, weights_add)))

    module _ (r : JobsLeft) (long : length r.left ≡ 5) (subtracted : (j : ℕ) → j < 5 → get_or r.left j 0 ≡ get_or b.all.left j 0 - get_or k.left j 0)
        (index_is : r.index ≡ b.all.index - k.index) (jobs_are : r.jobs ≡ b.all.jobs - k.jobs) (weight_is : r.weight ≡ b.all.weight - k.weight) where
      at_rest : (x : ℕ) → 1 ≤ x → x ≤ 5 → at r.left x ≡ at b.all.left x - at k.left x
      at_rest zero a u = absurd (omega arith)
      at_rest (suc j) a u = subtracted j (omega arith)

      rest_at : (j : ℕ) → 1 ≤ j → j ≤ P.N → at r.left j ≡ at (k_at P r.index) j
      rest_at j a u =
          let few : j ≤ 5 = omega (arith, b.filled.setup.now.valid.kinds) in
          rw (index_is, mirrored_is, others_at P k.index w.left_at.within)
          (omega (arith, at_rest j a few, left_at w.left_at j a u, all_at j a u, at_others P (k_at P k.index) (left_digits P k.index) j a u))

      rest_past : (j : ℕ) → P.N < j → at r.left j ≡ 0
      rest_past zero h = refl
      rest_past (suc j) h = elim (below_or_not j 5) [
        | inl c ↦ omega (arith, subtracted j c, b.all_left.left_at.past (suc j) h)
        | inr c ↦ get_or-eq_default r.left 0 (omega (arith, long))
      ]

      rest_here : LeftAt P r.left r.index
      rest_here =
          let longs : length (take P.N r.left) ≡ P.N = length-take-le P.N r.left (omega (arith, long, b.filled.setup.now.valid.kinds)) in
          record {
            long = long;
            here = same_at (take P.N r.left) (k_at P r.index) (longs ∙ sym (left_digits P r.index).long)
                (λ j a u. at_take P.N r.left j (omega (arith, longs)) ∙ rest_at j a (omega (arith, longs)));
            past = rest_past;
            within = omega (arith, index_is, mirrored_is, w.left_at.within);
          }

      -- what the first leaves is what is left at the index mirrored
      pub rest_left : LeftOf P r
      rest_left = record {
        left_at = rest_here;
        jobs_are = rw index_is (omega (arith, jobs_are, jobs_add));
        weight_is = rw index_is (omega (arith, weight_is, weights_add));
      }
