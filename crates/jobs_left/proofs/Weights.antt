-- The weight of a kind among those of some kinds, and 01's W.
-- Assumes nothing.
use Prim.Native.Nat.{ℕ}
use mathlib.Core.Bool.{cond}
use mathlib.Core.List.{List}
use mathlib.Core.Logic.{inl, inr}
use mathlib.Core.Path.{◌≡◌}
use lib.Dec.{eqb}
use lib.ListN.{get_or, get_or-map}
use Rattle.number.proofs.Steps.{bool_cases}
use Rattle.jobs_left.specs.declared.Kind.{Kind}
use Rattle.jobs_left.specs.Kinds.{no_kind, weights_of, step_of, factor}

pub weight_at : (kinds : List Kind) (j : ℕ) → get_or (weights_of kinds) j 0 ≡ (get_or kinds j no_kind).weight
weight_at kinds j = get_or-map (λ (kind : Kind). kind.weight) kinds j no_kind

pub factor_is : (goal w : ℕ) → factor (step_of goal w) ≡ cond (eqb goal 1) 1 w
factor_is goal w = elim (bool_cases (eqb goal 1)) [ inl t ↦ rw t | inr t ↦ rw t ]
