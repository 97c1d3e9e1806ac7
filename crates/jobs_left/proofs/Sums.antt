-- Jobs left and their weight, carried along while the counts step.
-- Assumes nothing.
use Prim.Native.Nat.{ℕ, zero, suc, ◌+◌, ◌-◌, ◌*◌, ◌≤◌, ◌<◌}
use mathlib.Core.List.{List, [], ◌∷◌, ◌++◌}
use mathlib.Core.Path.{◌≡◌, refl, ap₂}
use native.Mathlib.Nat.{add-mul, one-mul, zero-mul, mul-le-mul}
use native.Mathlib.Omega.{arith}
use lib.ListN.{length, get_or, take, set}
use lib.Seq.{take-suc, take-set-lt, get_or-take, length-take-le}
use Rattle.sequencing.specs.Lists.{sum, weigh}
use Rattle.jobs_left.specs.declared.Kind.{Kind}
use Rattle.jobs_left.specs.declared.JobsLeft.{JobsLeft}
use Rattle.jobs_left.specs.Kinds.{no_kind, weights_of}
use Rattle.jobs_left.specs.Steps.{Summed}
use Rattle.jobs_left.proofs.Weights.{weight_at}

sum_set : (k : List ℕ) (j a : ℕ) → j < length k → sum (set k j a) + get_or k j 0 ≡ sum k + a
unfolding sum
sum_set [] j a h = absurd (omega arith)
sum_set (c ∷ cs) zero a h = omega arith
sum_set (c ∷ cs) (suc j) a h = omega (arith, sum_set cs j a (omega arith))

weigh_set : (f : ℕ → ℕ) (k : List ℕ) (j a : ℕ) → j < length k → weigh f (set k j a) + get_or k j 0 * f (suc j) ≡ weigh f k + a * f (suc j)
unfolding weigh
weigh_set f [] j a h = absurd (omega arith)
weigh_set f (c ∷ cs) zero a h = omega arith
weigh_set f (c ∷ cs) (suc j) a h = omega (arith, weigh_set (λ i. f (suc i)) cs j a (omega arith))

-- two weights that agree weigh the same
pub weigh_same : (f g : ℕ → ℕ) (k : List ℕ) → ((j : ℕ) → 1 ≤ j → j ≤ length k → f j ≡ g j) → weigh f k ≡ weigh g k
unfolding weigh
weigh_same f g [] h = refl
weigh_same f g (c ∷ cs) h =
    ap₂ (λ m n. c * m + n) (h 1 (omega arith) (omega arith))
    (weigh_same (λ j. f (suc j)) (λ j. g (suc j)) cs (λ j a u. h (suc j) (omega arith) (omega arith)))

-- the sums of the counts so far, which only fall
pub record Carried (kinds : List Kind) (start k : JobsLeft) : Type 0 where
  pub sums : Summed (weights_of kinds) (take (length kinds) k.left) k.jobs k.weight
  pub fewer : k.jobs ≤ start.jobs
  pub lighter : k.weight ≤ start.weight

module _ {kinds : List Kind} {start k : JobsLeft} (long : length kinds ≤ length k.left) (w : Carried kinds start k) (j : ℕ) (h : j < length kinds) where
  -- one count set anew
  sums_set : (a : ℕ) → (sum (take (length kinds) (set k.left j a)) + get_or k.left j 0 ≡ k.jobs + a)
      × (weigh (λ i. get_or (weights_of kinds) (i - 1) 0) (take (length kinds) (set k.left j a)) + get_or k.left j 0 * (get_or kinds j no_kind).weight
      ≡ k.weight + a * (get_or kinds j no_kind).weight)
  sums_set a =
      let f : ℕ → ℕ = λ i. get_or (weights_of kinds) (i - 1) 0 in
      let room : j < length (take (length kinds) k.left) = omega (arith, length-take-le (length kinds) k.left long) in
      let there : get_or (take (length kinds) k.left) j 0 ≡ get_or k.left j 0 = get_or-take (length kinds) k.left j 0 h in
      let s : suc j - 1 ≡ j = omega arith in
      rw (take-set-lt (length kinds) k.left j a h, w.sums.jobs_are, w.sums.weight_is, ← there, ← (weight_at kinds j))
      (sum_set (take (length kinds) k.left) j a room, rw s at (weigh_set f (take (length kinds) k.left) j a room))

  pub some_left : get_or k.left j 0 ≤ k.jobs
  some_left = omega (arith, sums_set 0)

  pub some_weight : get_or k.left j 0 * (get_or kinds j no_kind).weight ≤ k.weight
  some_weight = omega (arith, (sums_set 0).1, zero-mul (get_or kinds j no_kind).weight)

  pub carried_more : Carried kinds start (record k {
    left = set k.left j 0;
    jobs = k.jobs - get_or k.left j 0;
    weight = k.weight - get_or k.left j 0 * (get_or kinds j no_kind).weight;
  })
  carried_more = record {
    sums = record { jobs_are = omega (arith, (sums_set 0).0); weight_is = omega (arith, (sums_set 0).1, zero-mul (get_or kinds j no_kind).weight) };
    fewer = omega (arith, w.fewer);
    lighter = omega (arith, w.lighter);
  }

  pub carried_out : Summed (weights_of kinds) (take (length kinds) (set k.left j (get_or k.left j 0 + 1))) (k.jobs + 1) (k.weight + (get_or kinds j no_kind).weight)
  carried_out =
      let a = get_or k.left j 0 in
      let m = (get_or kinds j no_kind).weight in
      record {
        jobs_are = omega (arith, (sums_set (a + 1)).0);
        weight_is = omega (arith, (sums_set (a + 1)).1, add-mul a 1 m, one-mul m);
      }

-- the sums of the first j kinds, at most 60 jobs each, for each of which at most 1000 pupils wait
pub record Weighing (kinds : List Kind) (left : List ℕ) (jobs weight j : ℕ) : Type 0 where
  pub sums : Summed (weights_of kinds) (take j left) jobs weight
  pub few : jobs ≤ 60 * j
  pub light : weight ≤ 60000 * j

pub weighing_none : {kinds : List Kind} {left : List ℕ} → Weighing kinds left 0 0 0
unfolding sum weigh
weighing_none = record { sums = record { jobs_are = refl; weight_is = refl }; few = omega arith; light = omega arith }

sum_more : (xs : List ℕ) (x : ℕ) → sum (xs ++ (x ∷ [])) ≡ sum xs + x
unfolding sum
sum_more [] x = omega arith
sum_more (c ∷ cs) x = omega (arith, sum_more cs x)

weigh_more : (f : ℕ → ℕ) (xs : List ℕ) (x : ℕ) → weigh f (xs ++ (x ∷ [])) ≡ weigh f xs + x * f (suc (length xs))
unfolding weigh
weigh_more f [] x = omega arith
weigh_more f (c ∷ cs) x = omega (arith, weigh_more (λ j. f (suc j)) cs x)

module _ {kinds : List Kind} {left : List ℕ} {jobs weight j : ℕ} (w : Weighing kinds left jobs weight j) (few : get_or left j 0 ≤ 60)
    (light : get_or (weights_of kinds) j 0 ≤ 1000) where
  one_light : get_or left j 0 * (get_or kinds j no_kind).weight ≤ 60000
  one_light = mul-le-mul {n₂ = 60} {m₂ = 1000} few (omega (arith, weight_at kinds j))

  pub weighing_more : j < length left → Weighing kinds left (jobs + get_or left j 0) (weight + get_or left j 0 * (get_or kinds j no_kind).weight) (j + 1)
  weighing_more h =
      let e : j + 1 ≡ suc j = omega arith in
      let f : suc (length (take j left)) - 1 ≡ j = omega (arith, length-take-le j left (omega arith)) in
      record {
        sums = record {
          jobs_are = rw (e, take-suc left j 0 h, sum_more, ← w.sums.jobs_are);
          weight_is = rw (e, take-suc left j 0 h, weigh_more, f, ← w.sums.weight_is, weight_at);
        };
        few = omega (arith, w.few);
        light = omega (arith, w.light, one_light);
      }
