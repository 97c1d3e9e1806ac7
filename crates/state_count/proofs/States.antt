-- 02's sum is the number of 01's states.
-- Assumes nothing.
use mathlib.Core.List.{List, map}
use mathlib.Core.Logic.{◌≢◌}
use mathlib.Core.Option.{Option, none, some}
use mathlib.Core.Path.{◌≡◌, refl, sym, ap, ap₂, subst, ◌∙◌}
use Prim.Native.Nat.{ℕ, zero, suc, pred, ◌+◌, ◌*◌, ◌≤◌, ◌<◌}
use native.Mathlib.Omega.{arith}
use borrow.Author.Tests.{lt-ltb}
use lib.Dec.{ltb, ltb→lt}
use lib.ListN.{length}
use Rattle.sequencing.specs.Lists.{at, from, upto, sum}
use Rattle.sequencing.specs.Problem.{Problem}
use Rattle.sequencing.specs.States.{K, all_left, IsState}
use Rattle.sequencing.specs.Least.{only}
use Rattle.sequencing.specs.Entries.{digits, block, entries, entry_kind, entry_left}
use Rattle.sequencing.specs.Counts.{valued}
use Rattle.sequencing.proofs.Counting.{sum_map_le, length_from}
use Rattle.sequencing.proofs.AllJobs.{at_all, length_all}
use Rattle.sequencing.proofs.Options.{none_some, only_some, found_most}
use Rattle.sequencing.proofs.Entries.{kind_number, left_number, pair_in}
use Rattle.sequencing.proofs.Sums.{sum_same, sum_blocks}
use Rattle.sequencing.proofs.CountByLeft.{kind_block, left_block}
use Rattle.sequencing.proofs.FeasibleCount.{pairs_count}
use Rattle.state_count.specs.StateCount.{others, most_feasible, CountsStates}
use Rattle.state_count.proofs.Digits.{below, digits_below}

sum_below : (f : ℕ → Option ℕ) (ns : List ℕ) → sum (map (λ n. valued (f n)) ns) ≤ length ns
sum_below f ns = sum_map_le (λ n. valued (f n)) ns (λ n. found_most (f n))

module _ (P : Problem) where
  -- something for a state, none for a pair with k_L = K_L
  abbrev test : ℕ → List ℕ → Option ℕ
  test L k = only (ltb (at k L) (K P L)) (some 0)

  passes : (L : ℕ) (k : List ℕ) (r : Option ℕ) → test L k ≡ r → r ≢ none → at k L < K P L
  passes L k none e h = absurd (h refl)
  passes L k (some c) e h = ltb→lt (at k L) (K P L) (only_some (ltb (at k L) (K P L)) (some 0) c e).0

  -- the number of entries of states is that of the states
  by_entries : CountsStates P (sum (map (λ n. valued (test (entry_kind P n) (entry_left P n))) (from 0 (entries P))))
  by_entries = pairs_count P (λ n. test (entry_kind P n) (entry_left P n)) (IsState P)
      (λ n l h. record { pair = pair_in P n l; completed = passes (entry_kind P n) (entry_left P n) _ refl h })
      (λ L k s. (s.pair, (λ e. none_some 0 (sym e ∙ ap₂ test (kind_number P L k s.pair) (left_number P L k s.pair) ∙ rw (lt-ltb (at k L) (K P L) s.completed) refl))))

  -- in L's block, K_L times all other (K_j + 1)
  in_block : (L : ℕ) → 1 ≤ L → L ≤ P.N
      → sum (map (λ i. valued (test (entry_kind P (pred L * block P + i)) (entry_left P (pred L * block P + i)))) (from 0 (block P))) ≡ at (all_left P) L * others (all_left P) L
  unfolding others
  in_block zero l u = absurd (omega arith)
  in_block (suc j) l u =
      sum_same _ (λ i. below (at (digits (all_left P) i) (suc j)) (at (all_left P) (suc j))) 0 (block P)
      (λ i z h. ap valued (ap₂ test (kind_block P (suc j) i l (omega arith)) (left_block P (suc j) i l (omega arith))
      ∙ ap (λ n. only (ltb (at (digits (all_left P) i) (suc j)) n) (some 0)) (sym (at_all P (suc j) l u))))
      ∙ digits_below (all_left P) j

  same : sum (map (λ n. valued (test (entry_kind P n) (entry_left P n))) (from 0 (entries P))) ≡ most_feasible (all_left P)
  unfolding most_feasible
  same =
      sum_blocks (λ n. valued (test (entry_kind P n) (entry_left P n))) (block P) P.N
      ∙ sum_same _ (λ L. at (all_left P) L * others (all_left P) L) 1 P.N (λ L l u. in_block L l (omega arith))
      ∙ ap (λ n. sum (map (λ L. at (all_left P) L * others (all_left P) L) (upto n))) (sym (length_all P))

  -- 02's sum is the number of states
  pub states_count : CountsStates P (most_feasible (all_left P))
  states_count = subst (CountsStates P) same by_entries

  -- which is at most that of entries
  pub most_entries : most_feasible (all_left P) ≤ entries P
  most_entries = omega (
    arith,
    same,
    sum_below (λ n. test (entry_kind P n) (entry_left P n)) (from 0 (entries P)),
    length_from 0 (entries P),
  )
