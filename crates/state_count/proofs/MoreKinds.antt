-- 02's sum with one kind more, in front or behind.
-- Assumes nothing.
use mathlib.Core.List.{List, [], ◌∷◌, ◌++◌}
use mathlib.Core.Path.{◌≡◌, refl, sym, ap, ap₂, ◌∙◌}
use Prim.Native.Nat.{ℕ, zero, suc, pred, ◌+◌, ◌*◌, ◌≤◌}
use native.Mathlib.Nat.{zero-mul, mul-zero, one-mul, mul-add, add-mul, mul_assoc, mul_left_comm}
use native.Mathlib.Omega.{arith}
use lib.ListN.{length, take, drop}
use Rattle.sequencing.specs.Lists.{at, from, sum}
use Rattle.sequencing.specs.Entries.{size}
use Rattle.sequencing.proofs.Radix.{size_more}
use Rattle.sequencing.proofs.Sums.{sum_same}
use Rattle.state_count.specs.StateCount.{others, most_feasible}
use Rattle.state_count.proofs.Sums.{sum_pred, sum_times}

-- what each kind adds
abbrev term : List ℕ → ℕ → ℕ
term cs L = at cs L * others cs L

-- behind one kind more each adds as many times more
term_behind : (c : ℕ) (cs : List ℕ) (L : ℕ) → 2 ≤ L → term (c ∷ cs) L ≡ suc c * term cs (pred L)
unfolding others size
term_behind c cs zero h = absurd (omega arith)
term_behind c cs (suc zero) h = absurd (omega arith)
term_behind c cs (suc (suc j)) h =
    ap (λ n. at cs (suc j) * n) (mul_assoc (suc c) (size (take j cs)) (size (drop (suc j) cs)))
    ∙ mul_left_comm (at cs (suc j)) (suc c) (size (take j cs) * size (drop (suc j) cs))

most_first : (c : ℕ) (cs : List ℕ) → most_feasible (c ∷ cs) ≡ c * size cs + suc c * most_feasible cs
unfolding most_feasible others sum from size
most_first c cs =
    ap₂ ◌+◌ (ap (λ n. c * n) (one-mul (size cs)))
    (sum_same (term (c ∷ cs)) (λ L. suc c * term cs (pred L)) 2 (length cs) (λ L l u. term_behind c cs L l)
    ∙ sum_times (suc c) (λ L. term cs (pred L)) 2 (length cs) ∙ ap (λ n. suc c * n) (sum_pred (term cs) 1 (length cs)))

pub most_none : most_feasible [] ≡ 0
unfolding most_feasible sum from
most_none = refl

-- (d × s + (d + 1) × m) × (c + 1), and c × (d + 1) × s
spread : (c d s m : ℕ) → d * (s * suc c) + suc d * (m * suc c + c * s) ≡ (d * s + suc d * m) * suc c + c * (suc d * s)
spread c d s m = omega (
  arith,
  mul_assoc d s (suc c),
  mul-add (suc d) (m * suc c) (c * s),
  mul_assoc (suc d) m (suc c),
  mul_left_comm (suc d) c s,
  add-mul (d * s) (suc d * m) (suc c),
)

-- 02's sum, kind by kind: the states so far for each number left of the next kind, and its own for each k so far
pub most_more : (cs : List ℕ) (c : ℕ) → most_feasible (cs ++ (c ∷ [])) ≡ most_feasible cs * suc c + c * size cs
unfolding size
most_more [] c = most_first c [] ∙ rw (most_none, mul-zero, zero-mul) (omega arith)
most_more (d ∷ cs) c =
    most_first d (cs ++ (c ∷ [])) ∙ ap₂ (λ m n. d * m + suc d * n) (size_more cs c) (most_more cs c) ∙ spread c d (size cs) (most_feasible cs)
    ∙ ap (λ n. n * suc c + c * (suc d * size cs)) (sym (most_first d cs))
