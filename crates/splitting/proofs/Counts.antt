-- The two shares by counts: each job stands in one of them, the first has n_j jobs of kind j and the second the others.
-- Assumes nothing.
use mathlib.Core.Bool.{Bool, not}
use mathlib.Core.List.{List, ◌++◌, map, map-append}
use mathlib.Core.Path.{◌≡◌, refl, sym, ap, ◌∙◌, fun_ext}
use Prim.Native.Nat.{ℕ, ◌+◌, ◌-◌, ◌≤◌, ◌<◌}
use native.Mathlib.Omega.{arith}
use lib.Dec.{leb, eqb, eqb→eq}
use lib.ListN.{length, take, drop, length-drop}
use lib.Seq.{length-take-le}
use Rattle.sequencing.specs.Lists.{at, upto, filter, count}
use Rattle.sequencing.specs.Problem.{Problem, T, kind}
use Rattle.sequencing.specs.States.{jobs_of, K, all_left, IsLeft}
use Rattle.sequencing.proofs.Counting.{length_filter, from_in, from_le, from_pos, length_from}
use Rattle.sequencing.proofs.Ascending.{Asc, asc_filter, asc_from}
use Rattle.sequencing.proofs.AllJobs.{at_all, length_all, all_left_lem}
use Rattle.sequencing.proofs.Orders.{order_counts}
use Rattle.splitting.specs.Splits.{IsSplit}
use Rattle.splitting.specs.Shares.{share, is_early, first_share, second_share}
use Rattle.splitting.specs.Scan.{others}
use Rattle.splitting.proofs.Lists.{same_at, count_append, count_parts, count_map, count_length, filter_filter, cut}
use Rattle.splitting.proofs.Shares.{share_K}

module _ (P : Problem) where
  -- the jobs of both are all jobs
  abbrev pub Together : List ℕ → List ℕ → Type 0
  Together a b = (z : ℕ) → count z a + count z b ≡ count z (upto (T P))

  pub split_together : (a b : List ℕ) → IsSplit P a b → Together a b
  split_together a b i z = sym (count_append z a b) ∙ order_counts P (a ++ b) i z

  module _ (a b : List ℕ) (t : Together a b) where
    counted : (z : ℕ) → count z (a ++ b) ≡ count z (upto (T P))
    counted z = count_append z a b ∙ t z

    pub together_split : IsSplit P a b
    together_split = record {
      whole = count_length (a ++ b) (upto (T P)) counted ∙ length_from 1 (T P);
      once = λ i l u. omega (arith, counted i, from_le i 1 (T P), from_pos i 1 (T P) l (omega arith));
    }

    pub among : (z : ℕ) → 0 < count z a + count z b → (1 ≤ z) × (z ≤ T P)
    among z h = omega (arith, from_in z 1 (T P) (omega (arith, t z)))

    -- and so by kinds
    pub together_kinds : (s₁ s₂ j : ℕ) → K (share P s₁ a) j + K (share P s₂ b) j ≡ K P j
    unfolding jobs_of
    together_kinds s₁ s₂ j = omega (
      arith,
      share_K P s₁ a j,
      share_K P s₂ b j,
      length_filter (kind P) j a,
      length_filter (kind P) j b,
      length_filter (kind P) j (upto (T P)),
      count_append j (map (kind P) a) (map (kind P) b),
      ap (count j) (map-append (kind P) a b),
      count_map (kind P) (a ++ b) (upto (T P)) counted j,
    )

  module _ (n : List ℕ) where
    pub shares_together : Together (first_share P n) (second_share P n)
    unfolding first_share second_share
    shares_together z = count_parts (is_early P n) z (upto (T P))

    pub in_shares : (z : ℕ) → 0 < count z (first_share P n) + count z (second_share P n) → (1 ≤ z) × (z ≤ T P)
    in_shares = among (first_share P n) (second_share P n) shares_together

    module _ (l : IsLeft P n) where
      ascending : (x : ℕ) → Asc 0 (jobs_of P x)
      unfolding jobs_of
      ascending x = asc_filter (λ i. eqb x (kind P i)) 0 0 (upto (T P)) (omega arith) (asc_from 0 1 (T P) (omega arith))

      -- what the test, or its opposite, leaves of kind x
      of_kind_lem : (g : Bool → Bool) (x : ℕ)
          → filter (λ i. eqb x (kind P i)) (filter (λ i. g (is_early P n i)) (upto (T P)))
          ≡ filter (λ i. g (leb i (at (jobs_of P x) (at n x)))) (jobs_of P x)
      unfolding is_early jobs_of
      of_kind_lem g x = filter_filter (λ i. g (is_early P n i)) (λ i. g (leb i (at (jobs_of P x) (at n x)))) (λ i. eqb x (kind P i))
          (λ i h. rw (eqb→eq x (kind P i) h) refl) (upto (T P))

      -- the jobs of kind x in either share
      pub first_jobs : (x : ℕ) → filter (λ i. eqb x (kind P i)) (first_share P n) ≡ take (at n x) (jobs_of P x)
      unfolding first_share
      first_jobs x = of_kind_lem (λ b. b) x ∙ (cut 0 (at n x) (jobs_of P x) (ascending x) (l.within x)).0

      pub second_jobs : (x : ℕ) → filter (λ i. eqb x (kind P i)) (second_share P n) ≡ drop (at n x) (jobs_of P x)
      unfolding second_share
      second_jobs x = of_kind_lem not x ∙ (cut 0 (at n x) (jobs_of P x) (ascending x) (l.within x)).1

      module _ (s : ℕ) where
        pub first_K : (x : ℕ) → K (share P s (first_share P n)) x ≡ at n x
        first_K x = share_K P s (first_share P n) x ∙ ap length (first_jobs x) ∙ length-take-le (at n x) (jobs_of P x) (l.within x)

        pub second_K : (x : ℕ) → K (share P s (second_share P n)) x ≡ K P x - at n x
        second_K x = share_K P s (second_share P n) x ∙ ap length (second_jobs x) ∙ length-drop (at n x) (jobs_of P x)

        pub first_counts : all_left (share P s (first_share P n)) ≡ n
        first_counts =
            let Q = share P s (first_share P n) in
            same_at (all_left Q) n (length_all Q ∙ sym l.long) (λ j a b. at_all Q j a (omega (arith, length_all Q)) ∙ first_K j)

        pub second_counts : all_left (share P s (second_share P n)) ≡ others P n
        unfolding all_left others
        second_counts = ap (λ f. map f (upto P.N)) (fun_ext second_K)

      pub at_others : (j : ℕ) → 1 ≤ j → j ≤ P.N → at (others P n) j ≡ K P j - at n j
      at_others j a b = rw (← (second_counts 0)) (at_all (share P 0 (second_share P n)) j a b ∙ second_K 0 j)

      pub others_left : IsLeft P (others P n)
      others_left = rw (← (second_counts 0)) (let q = all_left_lem (share P 0 (second_share P n)) in
          record { long = q.long; within = λ j. omega (arith, q.within j, second_K 0 j) })
