-- Following a filled table: what is left to follow, place by place.
-- Assumes nothing.
use Prim.Native.Nat.{ℕ, suc, ◌+◌, ◌-◌, ◌≤◌, ◌<◌}
use mathlib.Core.List.{List, ◌++◌, map}
use mathlib.Core.Path.{◌≡◌, refl, sym, ap, ◌∙◌}
use native.Mathlib.Numerals.{add-one}
use native.Mathlib.Omega.{arith}
use lib.ListN.{length, get_or, take, drop, set, replicate}
use lib.Seq.{sets}
use Rattle.std.proofs.lemmas.List.{take-append-drop, length-take-le}
use Rattle.std.specs.Prelude.{Some, None, Option as Answer}
use Rattle.units.specs.Costs.{cost_in}
use Rattle.fields.specs.Lists.{filled}
use Rattle.queue.specs.declared.Queue.{Queue}
use Rattle.queue.specs.Record.{weight}
use Rattle.sequencing.specs.Lists.{at, sum, weigh, upto as kinds_upto}
use Rattle.sequencing.specs.Problem.{Problem}
use Rattle.sequencing.specs.States.{complete, K, all_left, jobs_of}
use Rattle.sequencing.specs.Least.{least, arg_least}
use Rattle.sequencing.specs.Recursion.{choice}
use Rattle.sequencing.specs.Following.{walk_by, by_hand_in_upto}
use Rattle.sequencing.specs.Entries.{k_at, stride}
use Rattle.sequencing.proofs.AllJobs.{left_small}
use Rattle.sequencing.proofs.Counting.{one_self}
use Rattle.sequencing.proofs.Entries.{left_digits}
use Rattle.sequencing.proofs.Vectors.{at_minus, at_sum, complete_sum, complete_weigh, at_complete}
use Rattle.problem.specs.OfQueue.{problem}
use Rattle.problem.proofs.Rule.{few_jobs}
use Rattle.jobs_left.specs.declared.JobsLeft.{JobsLeft}
use Rattle.jobs_left.specs.declared.Kind.{Kind}
use Rattle.jobs_left.specs.Kinds.{no_kind, kind_at, weights_of}
use Rattle.jobs_left.specs.Steps.{Summed, LeftAt, LeftOf}
use Rattle.jobs_left.proofs.LeftAt.{left_at, complete_digits, stride_earlier, left_complete, summed_left}
use Rattle.layout.specs.declared.Setup.{Setup}
use Rattle.layout.specs.Prepared.{kind_of}
use Rattle.layout.proofs.Prepared.{known, kinds_long, kind_is, jobs_at, job_in}
use Rattle.layout.proofs.AllLeft.{weights_small}
use Rattle.next_states.specs.declared.Least.{Least}
use Rattle.next_states.specs.NextStates.{least_answer}
use Rattle.solver.specs.Following.{Takes, Share, Followed}
use Rattle.solver.proofs.Walking.{found_after, takes_next, next_found, by_hand_more, by_hand_none}

-- the jobs of n places with k left, the first of them of kind x
abbrev pub jobs_by : Problem → List ℕ → ℕ → ℕ → List ℕ → List ℕ
jobs_by P upto n x k = by_hand_in_upto P upto k (walk_by P n x k)

-- what stands in the order, with the jobs still to be followed behind it, is the whole share's; the kind to take next is known
pub record Following (q : Queue) (from : JobsLeft) (upto : List ℕ) (first : ℕ) (order : List ℕ) (k : JobsLeft) (kind place : ℕ) : Type 0 where
  pub left_of : LeftOf (problem q) k
  pub within : (j : ℕ) → 1 ≤ j → j ≤ q.kinds → at k.left j ≤ at upto j
  pub gone : k.jobs + place ≡ sum (k_at (problem q) from.index)
  pub takes : 0 < k.jobs → Takes (problem q) (k_at (problem q) k.index) kind
  pub rest : sets order place (jobs_by (problem q) upto k.jobs kind (k_at (problem q) k.index))
      ≡ filled 60 (jobs_by (problem q) upto (sum (k_at (problem q) from.index)) first (k_at (problem q) from.index))

module _ {q : Queue} {from : JobsLeft} {upto : List ℕ} {first : ℕ} where
  module _ {order : List ℕ} {k : JobsLeft} {kind place : ℕ} (f : Following q from upto first order k kind place) where
    pub follow_done : sum (k_at (problem q) from.index) ≤ place → Followed q upto from.index first order
    follow_done h = rw (by_hand_none (problem q) upto k.jobs kind (k_at (problem q) k.index) (omega (arith, f.gone))) at f.rest

-- what counting and weighing a share anew relies on
module _ (s : Setup) {kinds : List Kind} (are : kinds ≡ map (kind_of s.queue) (kinds_upto s.queue.kinds)) where
  pub share_small : {left : List ℕ} {i : ℕ} → LeftAt (problem s.queue) left i → (j : ℕ) → j < length kinds → get_or left j 0 ≤ 60
  share_small {left} {i} of j h =
      let k = k_at (problem s.queue) i in
      let u : j < s.queue.kinds = rw (are, kinds_long s.queue) at h in
      omega (arith, left_at of (suc j) (omega arith) (omega arith), at_sum k (suc j), left_small (problem s.queue) k (left_digits (problem s.queue) i), few_jobs s.queue s.valid)

  pub share_light : (j : ℕ) → j < length kinds → get_or (weights_of kinds) j 0 ≤ 1000
  share_light j h = weights_small s.valid kinds j (ap (λ ks. get_or ks j no_kind) are)

-- the loop begins with all that is left to follow, counted and weighed
module _ (s : Setup) {from : JobsLeft} {upto : List ℕ} {first : ℕ} (share : Share s.queue from upto first) {kinds : List Kind} (are : kinds ≡ map (kind_of s.queue) (kinds_upto s.queue.kinds))
    {k : JobsLeft} (left_is : k.left ≡ from.left) (index_is : k.index ≡ from.index) (summed : Summed (weights_of kinds) (take (length kinds) from.left) k.jobs k.weight) where
  pub left_first : LeftOf (problem s.queue) k
  left_first = summed_left {kinds = kinds} (rw are (known s.queue)) k (rw (left_is, index_is) share.left_at) (rw left_is summed)

  places_are : k.jobs ≡ sum (k_at (problem s.queue) from.index)
  places_are = left_first.jobs_are ∙ ap (λ i. sum (k_at (problem s.queue) i)) index_is

  pub places_few : k.jobs ≤ 60
  places_few = omega (arith, places_are, left_small (problem s.queue) (k_at (problem s.queue) from.index) (left_digits (problem s.queue) from.index), few_jobs s.queue s.valid)

  -- as many slots as jobs are left
  pub slots_are : length (take k.jobs (replicate {A = ℕ} 60 0)) ≡ sum (k_at (problem s.queue) from.index)
  slots_are = length-take-le k.jobs (replicate {A = ℕ} 60 0) places_few ∙ places_are

  pub follow_first : Following s.queue from upto first (take k.jobs (replicate 60 0) ++ drop k.jobs (replicate 60 0)) k first 0
  follow_first =
      record {
        left_of = left_first;
        within = λ j a b. rw left_is (share.within j a b).0;
        gone = omega (arith, places_are);
        takes = λ h. rw index_is (share.takes (rw places_are at h));
        rest = rw (take-append-drop {A = ℕ} k.jobs (replicate 60 0), places_are, index_is) refl;
      }

-- a turn of the loop
module _ (s : Setup) {from : JobsLeft} {upto : List ℕ} {first : ℕ} {order : List ℕ} {k : JobsLeft} {kind place : ℕ}
    (share : Share s.queue from upto first) (f : Following s.queue from upto first order k kind place) (more : place < sum (k_at (problem s.queue) from.index)) where
  abbrev q : Queue
  q = s.queue

  abbrev left : List ℕ
  left = k_at (problem q) k.index

  pub takes_now : Takes (problem q) left kind
  takes_now = f.takes (omega (arith, f.gone, more))

  low : 1 ≤ kind
  low = takes_now.low

  high : kind ≤ q.kinds
  high = takes_now.high

  -- as the kinds are counted from 0
  pub one_up : suc (kind - 1) ≡ kind
  one_up = omega (arith, low)

  here : get_or k.left (kind - 1) 0 ≡ at left kind
  here = sym (at_minus k.left kind low) ∙ left_at f.left_of.left_at kind low high

  some_left : 0 < at k.left kind
  some_left = omega (arith, left_at f.left_of.left_at kind low high, takes_now.some_left)

  pub job_left : 1 ≤ get_or k.left (kind - 1) 0
  job_left = omega (arith, here, takes_now.some_left)

  pub left_within : get_or k.left (kind - 1) 0 ≤ get_or upto (kind - 1) 0
  left_within = omega (arith, at_minus k.left kind low, at_minus upto kind low, f.within kind low high)

  -- the jobs of the kind before this one
  taken : ℕ
  taken = get_or upto (kind - 1) 0 - get_or k.left (kind - 1) 0

  taken_few : taken < K (problem q) kind
  unfolding taken
  taken_few = omega (arith, job_left, left_within, at_minus upto kind low, share.within kind low high)

  pub job_there : (kind_at s.layout.kinds kind).begin + (get_or upto (kind - 1) 0 - get_or k.left (kind - 1) 0) < 60
  unfolding taken
  job_there = job_in s.valid s.prepared kind taken low high taken_few

  stride_is : (kind_at s.layout.kinds kind).stride ≡ stride (all_left (problem q)) kind
  stride_is = ap (λ x. x.stride) (kind_is s.valid s.prepared kind low high)

  weight_is : (kind_at s.layout.kinds kind).weight ≡ weight q kind
  weight_is = ap (λ x. x.weight) (kind_is s.valid s.prepared kind low high)

  pub stride_within : (kind_at s.layout.kinds kind).stride ≤ k.index
  stride_within = omega (arith, stride_is, stride_earlier f.left_of.left_at kind low high some_left kind (omega arith))

  lighter : (kind_at s.layout.kinds kind).weight + weigh (weight q) (complete left kind) ≡ k.weight
  lighter = rw weight_is (complete_weigh (weight q) left kind takes_now.some_left ∙ sym f.left_of.weight_is)

  pub weight_within : (kind_at s.layout.kinds kind).weight ≤ k.weight
  weight_within = omega (arith, lighter)

  -- with the job taken
  abbrev pub then_left : JobsLeft
  then_left = record {
    left = set k.left (kind - 1) (get_or k.left (kind - 1) 0 - 1);
    index = k.index - (kind_at s.layout.kinds kind).stride;
    jobs = k.jobs - 1;
    weight = k.weight - (kind_at s.layout.kinds kind).weight;
  }

  then_is : k_at (problem q) then_left.index ≡ complete left kind
  then_is = rw stride_is (complete_digits f.left_of.left_at kind low high some_left)

  fewer : suc (sum (complete left kind)) ≡ k.jobs
  fewer = complete_sum left kind takes_now.some_left ∙ sym f.left_of.jobs_are

  pub left_then : LeftOf (problem q) then_left
  left_then = record {
    left_at = rw stride_is (left_complete f.left_of.left_at kind low high some_left);
    jobs_are = rw then_is (omega (arith, fewer));
    weight_is = rw then_is (omega (arith, lighter));
  }

  within_then : (j : ℕ) → 1 ≤ j → j ≤ q.kinds → at then_left.left j ≤ at upto j
  within_then j a b = omega (
    arith,
    left_at left_then.left_at j a b,
    ap (λ k'. at k' j) then_is,
    at_complete left kind j takes_now.some_left,
    left_at f.left_of.left_at j a b,
    f.within j a b,
  )

  module _ {k' : JobsLeft} (then : k' ≡ then_left) where
    pub left_after : LeftOf (problem q) k'
    left_after = rw then left_then

    -- and what is found then
    module _ {r : Answer Least} (found : r ≡ least_answer (cost_in q.goal) (arg_least (choice (problem q) kind (k_at (problem q) k'.index)) q.kinds) (least (choice (problem q) kind (k_at (problem q) k'.index)) q.kinds)) where
      found_kind : 0 < sum (complete left kind) → (c : ℕ) × (r ≡ Some (record { cost = cost_in q.goal c; kind = arg_least (choice (problem q) kind (complete left kind)) q.kinds }))
      found_kind h =
          let e : k_at (problem q) k'.index ≡ complete left kind = rw then then_is in
          let (c, some) = next_found (problem q) q.goal left kind takes_now h in
          (c, rw e at found ∙ some)

      pub some_found : {next : Least} → r ≡ Some next → 0 < sum (complete left kind) → next.kind ≡ arg_least (choice (problem q) kind (complete left kind)) q.kinds
      some_found {next} is h =
          let (c, e) = found_kind h in
          let same : next ≡ record { cost = cost_in q.goal c; kind = arg_least (choice (problem q) kind (complete left kind)) q.kinds } = cc in
          ap (λ n. n.kind) same

      pub none_found : {X : Type 0} → r ≡ None → 0 < sum (complete left kind) → X
      none_found is h = let (c, e) = found_kind h in cc

    -- and the next kind
    module _ {job next : ℕ} (job_is : job ≡ get_or s.layout.jobs ((kind_at s.layout.kinds kind).begin + (get_or upto (kind - 1) 0 - get_or k.left (kind - 1) 0)) 0)
        (next_is : 0 < sum (complete left kind) → next ≡ arg_least (choice (problem q) kind (complete left kind)) q.kinds) where
      takes_next_kind : 0 < sum (complete left kind) → Takes (problem q) (complete left kind) next
      takes_next_kind h = let (c, e) = found_after (problem q) left kind takes_now h in rw (next_is h) (takes_next (problem q) kind (complete left kind) c e)

      job_taken : job ≡ at (jobs_of (problem q) kind) (at upto kind - at (complete left kind) kind)
      unfolding taken
      job_taken =
          let one_less : suc (at (complete left kind) kind) ≡ at left kind = omega (arith, at_complete left kind kind takes_now.some_left, one_self kind) in
          let n : suc taken ≡ at upto kind - at (complete left kind) kind = omega (arith, here, one_less, left_within, at_minus upto kind low) in
          job_is ∙ jobs_at s.valid s.prepared kind taken low high taken_few ∙ ap (at (jobs_of (problem q) kind)) n

      so_far : sets order place (jobs_by (problem q) upto (sum left) kind left) ≡ filled 60 (jobs_by (problem q) upto (sum (k_at (problem q) from.index)) first (k_at (problem q) from.index))
      so_far = rw f.left_of.jobs_are at f.rest

      rest_then : sets (set order place job) (place + 1) (jobs_by (problem q) upto then_left.jobs next (k_at (problem q) then_left.index))
          ≡ filled 60 (jobs_by (problem q) upto (sum (k_at (problem q) from.index)) first (k_at (problem q) from.index))
      rest_then =
          let n : k.jobs - 1 ≡ sum (complete left kind) = omega (arith, fewer) in
          rw (then_is, add-one place, job_taken, n) (ap (sets order place) (sym (by_hand_more (problem q) upto left kind next takes_now.some_left next_is)) ∙ so_far)

      pub follow_more : Following q from upto first (set order place job) k' next (place + 1)
      follow_more = rw then (record {
        left_of = left_then;
        within = within_then;
        gone = omega (arith, f.gone, fewer);
        takes = λ h. rw then_is (takes_next_kind (omega (arith, fewer)));
        rest = rest_then;
      })
