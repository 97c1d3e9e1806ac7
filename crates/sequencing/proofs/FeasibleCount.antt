-- The number of entries that hold a value is 01's kept count: their pairs are the list that its definition asks for.
-- Assumes nothing.
use mathlib.Core.List.Memᴰ
use mathlib.Core.List.{List, [], ◌∷◌, map, Memᴰ}
use mathlib.Core.Logic.{◌⊎◌, inl, inr, ◌≢◌}
use mathlib.Core.Option.{Option, none, some}
use mathlib.Core.Path.{◌≡◌, refl, sym, ap, subst}
use Prim.Native.Nat.{ℕ, zero, suc, ◌+◌, ◌≤◌, ◌<◌}
use native.Mathlib.Nat.{zero-add}
use native.Mathlib.Omega.{arith}
use lib.ListN.{length}
use Rattle.sequencing.specs.Lists.{from, sum}
use Rattle.sequencing.specs.Problem.{Problem}
use Rattle.sequencing.specs.States.{IsPair, IsState}
use Rattle.sequencing.specs.Feasible.{Feasible}
use Rattle.sequencing.specs.Entries.{entries, number, entry_kind, entry_left, entry}
use Rattle.sequencing.specs.Counts.{NoRepeats, CountsPairs, CountsFeasible, valued, feasible_states}
use Rattle.sequencing.proofs.Counting.{one_cases}
use Rattle.sequencing.proofs.Options.{none_some}
use Rattle.sequencing.proofs.FeasibleStates.{state_of, feasible_is}
use Rattle.sequencing.proofs.Entries.{number_in, kind_number, left_number, pair_in, number_pair, entry_is}
use Rattle.sequencing.proofs.Sums.{sum_more}
use Rattle.sequencing.proofs.Distinct.{shorter}

-- y in front where something is found
abbrev keep : {A : Type 0} → Option ℕ → A → List A → List A
keep none y ys = ys
keep (some c) y ys = y ∷ ys

module _ {A : Type 0} (y : A) (ys : List A) where
  keep_cases : (r : Option ℕ) (x : A) → Memᴰ x (keep r y ys) → ((r ≢ none) × (x ≡ y)) ⊎ Memᴰ x ys
  keep_cases none x m = inr m
  keep_cases (some c) x m = elim (Memᴰ.cases_cons m) [ inl e ↦ inl ((λ n. none_some c (sym n)), e) | inr t ↦ inr t ]

  keep_here : (r : Option ℕ) → r ≢ none → Memᴰ y (keep r y ys)
  keep_here none h = absurd (h refl)
  keep_here (some c) h = Memᴰ.head refl

  keep_there : (r : Option ℕ) (x : A) → Memᴰ x ys → Memᴰ x (keep r y ys)
  keep_there none x m = m
  keep_there (some c) x m = Memᴰ.tail m

  keep_distinct : (r : Option ℕ) → (Memᴰ y ys → ⊥) → NoRepeats ys → NoRepeats (keep r y ys)
  unfolding NoRepeats
  keep_distinct none h d = d
  keep_distinct (some c) h d = (h, d)

  keep_length : (r : Option ℕ) → length (keep r y ys) ≡ length ys + valued r
  keep_length none = omega arith
  keep_length (some c) = omega arith

module _ (P : Problem) where
  abbrev pair_of : ℕ → ℕ × List ℕ
  pair_of n = (entry_kind P n, entry_left P n)

  module _ (f : ℕ → Option ℕ) where
    -- the pairs of the entries below n at which f finds something
    holding : ℕ → List (ℕ × List ℕ)
    holding zero = []
    holding (suc n) = keep (f n) (pair_of n) (holding n)

    holding_length : (n : ℕ) → length (holding n) ≡ sum (map (λ n. valued (f n)) (from 0 n))
    unfolding holding sum from
    holding_length zero = refl
    holding_length (suc n) = omega (arith, keep_length (pair_of n) (holding n) (f n), holding_length n, rw zero-add at (sum_more (λ n. valued (f n)) 0 n))

    holding_from : (n : ℕ) (p : ℕ × List ℕ) → Memᴰ p (holding n) → (i : ℕ) × (i < n) × (p ≡ pair_of i) × (f i ≢ none)
    unfolding holding
    holding_from zero p m = absurd (Memᴰ.not-nil m)
    holding_from (suc n) p m = elim (keep_cases (pair_of n) (holding n) (f n) p m) [
      | inl t ↦ (n, omega arith, t.1, t.0)
      | inr t ↦ (let r = holding_from n p t in (r.0, omega arith, r.2, r.3))
    ]

    holding_has : (n i : ℕ) → i < n → f i ≢ none → Memᴰ (pair_of i) (holding n)
    unfolding holding
    holding_has zero i l h = absurd (omega arith)
    holding_has (suc n) i l h = elim (one_cases i n) [
      | inl e ↦ rw e.0 (keep_here (pair_of n) (holding n) (f n) (rw e.0 at h))
      | inr e ↦ keep_there (pair_of n) (holding n) (f n) (pair_of i) (holding_has n i (omega arith) h)
    ]

    -- two entries never have one pair
    holding_distinct : (n : ℕ) → NoRepeats (holding n)
    unfolding holding NoRepeats
    holding_distinct zero = tt
    holding_distinct (suc n) = keep_distinct (pair_of n) (holding n) (f n) other (holding_distinct n)
      where
        other : Memᴰ (pair_of n) (holding n) → ⊥
        other m = let r = holding_from n (pair_of n) m in omega (arith, number_pair P n, number_pair P r.0, ap (λ p. number P p.0 p.1) r.2)

    -- where f finds something at exactly the entries of the pairs of which Q holds, the number of those entries is that of the pairs
    pub pairs_count : (Q : ℕ → List ℕ → Type 0) → ((n : ℕ) → n < entries P → f n ≢ none → Q (entry_kind P n) (entry_left P n))
        → ((L : ℕ) (k : List ℕ) → Q L k → IsPair P L k × (f (number P L k) ≢ none)) → CountsPairs Q (sum (map (λ n. valued (f n)) (from 0 (entries P))))
    pairs_count Q found held = record {
      pairs = holding (entries P);
      distinct = holding_distinct (entries P);
      exactly = λ L k. (to L k, of L k);
      many = holding_length (entries P);
    }
      where
        to : (L : ℕ) (k : List ℕ) → Memᴰ (L, k) (holding (entries P)) → Q L k
        to L k m =
            let r = holding_from (entries P) (L, k) m in
            subst (λ p. Q p.0 p.1) (sym r.2) (found r.0 r.1 r.3)

        of : (L : ℕ) (k : List ℕ) → Q L k → Memᴰ (L, k) (holding (entries P))
        of L k t =
            let (p, h) = held L k t in
            let e : (L, k) ≡ pair_of (number P L k) = λ i. (sym (kind_number P L k p) i, sym (left_number P L k p) i) in
            Memᴰ.cast e (holding_has (entries P) (number P L k) (number_in P L k p) h)

  -- 01's kept count is the number of the pairs that are states and feasible
  abbrev pub Kept : ℕ → List ℕ → Type 0
  Kept L k = IsState P L k × Feasible P L k

  pub of_pairs : (n : ℕ) → CountsPairs Kept n → CountsFeasible P n
  of_pairs n c = record { states = c.pairs; distinct = c.distinct; exactly = c.exactly; many = c.many }

  pub as_pairs : (n : ℕ) → CountsFeasible P n → CountsPairs Kept n
  as_pairs n c = record { pairs = c.states; distinct = c.distinct; exactly = c.exactly; many = c.many }

  -- the number of entries that hold a value is that of the feasible states by 01's sentence
  pub feasible_count : CountsFeasible P (feasible_states P)
  unfolding feasible_states
  feasible_count = of_pairs _ (pairs_count (entry P) Kept
      (λ n h t. let s = state_of P (entry_kind P n) (entry_left P n) (pair_in P n h) t in (s, (feasible_is P (entry_kind P n) (entry_left P n) s).0 t))
      (λ L k t. (t.0.pair, rw (entry_is P L k t.0.pair) ((feasible_is P L k t.0).1 t.1))))

-- ---- numbers of pairs

module _ (Q R : ℕ → List ℕ → Type 0) (m n : ℕ) (a : CountsPairs Q m) (b : CountsPairs R n) where
  -- where Q is narrower it holds of no more pairs
  pub count_most : ((L : ℕ) (k : List ℕ) → Q L k → R L k) → m ≤ n
  count_most h = omega (
    arith,
    a.many,
    b.many,
    shorter a.pairs b.pairs a.distinct (λ p t. (b.exactly p.0 p.1).1 (h p.0 p.1 ((a.exactly p.0 p.1).0 t))),
  )

-- so there is one such number
pub count_once : (Q : ℕ → List ℕ → Type 0) (m n : ℕ) → CountsPairs Q m → CountsPairs Q n → m ≡ n
count_once Q m n a b = omega (arith, count_most Q Q m n a b (λ L k t. t), count_most Q Q n m b a (λ L k t. t))

-- 01's kept count is one number
pub count_unique : (P : Problem) (m n : ℕ) → CountsFeasible P m → CountsFeasible P n → m ≡ n
count_unique P m n a b = count_once (Kept P) m n (as_pairs P m a) (as_pairs P n b)
