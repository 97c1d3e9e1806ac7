-- The count of feasible states, taken with k outermost and L within.
-- Assumes nothing.
use mathlib.Core.List.{map}
use mathlib.Core.Path.{◌≡◌, sym, ap, ap₂, ◌∙◌}
use Prim.Native.Nat.{ℕ, pred, ◌+◌, ◌*◌, ◌≤◌, ◌<◌}
use native.Mathlib.Nat.{div-eq_of_lt, mod-eq_of_lt, mul-add-div_right, mul-add-mod_self_right}
use native.Mathlib.Omega.{arith}
use Rattle.sequencing.specs.Lists.{from, upto, sum}
use Rattle.sequencing.specs.Problem.{Problem}
use Rattle.sequencing.specs.States.{all_left}
use Rattle.sequencing.specs.Recursion.{value}
use Rattle.sequencing.specs.Entries.{digits, block, entry_kind, entry_left, entry}
use Rattle.sequencing.specs.Counts.{valued, feasible_states}
use Rattle.sequencing.proofs.Radix.{size_pos}
use Rattle.sequencing.proofs.Sums.{sum_same, sum_blocks, sum_swap}

module _ (P : Problem) where
  module _ (L i : ℕ) (l : 1 ≤ L) (h : i < block P) where
    -- L and k of the entry i behind the beginning of L's block
    pub kind_block : entry_kind P (pred L * block P + i) ≡ L
    unfolding entry_kind
    kind_block = omega (arith, mul-add-div_right {m = block P} (size_pos (all_left P)) (pred L) i, div-eq_of_lt h)

    pub left_block : entry_left P (pred L * block P + i) ≡ digits (all_left P) i
    unfolding entry_left
    left_block = ap (digits (all_left P)) (mul-add-mod_self_right (pred L) (block P) i ∙ mod-eq_of_lt h)

    -- the entry of L and the k whose index is i
    entry_block : entry P (pred L * block P + i) ≡ value P L (digits (all_left P) i)
    entry_block = ap₂ (value P) kind_block left_block

  -- 1 where the pair of L and the k whose index is i has a value
  abbrev counts : ℕ → ℕ → ℕ
  counts L i = valued (value P L (digits (all_left P) i))

  -- that total is the number of feasible states
  pub count_by_left : sum (map (λ i. sum (map (λ L. valued (value P L (digits (all_left P) i))) (upto P.N))) (from 0 (block P))) ≡ feasible_states P
  unfolding feasible_states
  count_by_left = sym (
      sum_blocks (λ n. valued (entry P n)) (block P) P.N
      ∙ sum_same _ (λ L. sum (map (counts L) (from 0 (block P)))) 1 P.N
      (λ L l u. sum_same _ (counts L) 0 (block P) (λ i z h. ap valued (entry_block L i l (omega arith))))
      ∙ sum_swap counts (upto P.N) (from 0 (block P)))
