-- A row's own entry: it lies within the table, and where it holds a value that is the cost of what is left after the row.
-- Assumes nothing.
use mathlib.Core.Logic.{inl, inr}
use mathlib.Core.Option.{Option, none, some}
use mathlib.Core.Path.{◌≡◌, ap, ◌∙◌}
use mathlib.Mathlib.Data.Bool.Basic.{dichotomy}
use Prim.Native.Nat.{ℕ, suc, ◌+◌, ◌-◌, ◌*◌, ◌^◌, ◌≤◌, ◌<◌}
use native.Mathlib.Omega.{arith}
use lib.Dec.{eqb}
use lib.ListN.{length, get_or}
use Rattle.std.specs.Prelude.{Some}
use Rattle.units.specs.Costs.{cost_in}
use Rattle.queue.specs.declared.Queue.{Queue}
use Rattle.sequencing.specs.Problem.{Problem}
use Rattle.sequencing.specs.Recursion.{cost_to_go, value}
use Rattle.sequencing.specs.Entries.{k_at, number, block, entries, stored}
use Rattle.sequencing.proofs.Recursion.{value_some}
use Rattle.problem.specs.OfQueue.{problem}
use Rattle.problem.proofs.Sizes.{entries_small}
use Rattle.jobs_left.specs.declared.JobsLeft.{JobsLeft}
use Rattle.jobs_left.specs.Steps.{LeftOf}
use Rattle.jobs_left.specs.Kinds.{kind_at}
use Rattle.layout.proofs.Prepared.{kind_is}
use Rattle.next_states.specs.NextStates.{loaded, answer}
use Rattle.next_states.proofs.Numbers.{number_at}
use Rattle.filling.proofs.Tables.{entry_below}
use Rattle.solver.specs.declared.Filled.{Filled}
use Rattle.split_search.specs.Searching.{cost_answer}

-- what is read from an entry was stored
value_is : (r : Option ℕ) {v : ℕ} → Some v ≡ answer (loaded (stored r)) → r ≡ some v
value_is none e = cc
value_is (some c) {v} e = elim (dichotomy (eqb c (2 ^ 64 - 1))) [
  | inr t ↦ (let f = rw t at e in cc)
  | inl t ↦ (let f = rw t at e in cc)
]

module _ (s : Filled) {k : JobsLeft} (left : LeftOf (problem s.setup.now.queue) k) {row : ℕ} (some-row : 0 < row) (row_in : row ≤ s.setup.now.queue.kinds) where
  abbrev q : Queue
  q = s.setup.now.queue

  abbrev P : Problem
  P = problem q

  entry_in : (row - 1) * block P + k.index < entries P
  entry_in = entry_below P row k.index some-row row_in left.left_at.within

  pub row_block : (row - 1 < 5) × (k.index + (kind_at s.setup.now.layout.kinds (suc (row - 1))).block < 2 ^ 64)
  row_block =
      let v = s.setup.now.valid in
      let e : suc (row - 1) - 1 ≡ row - 1 = omega arith in
      let is : (kind_at s.setup.now.layout.kinds (suc (row - 1))).block ≡ (row - 1) * block P =
      ap (λ x. x.block) (kind_is v s.setup.now.prepared (suc (row - 1)) (omega arith) (omega arith)) ∙ ap (λ n. n * block P) e in
      (omega (arith, v.kinds), omega (arith, is, entry_in, entries_small q v))

  module _ {entry : ℕ} (is : k.index < block P → row - 1 < q.kinds → entry ≡ number P (suc (row - 1)) (k_at P k.index)) where
    position : entry ≡ (row - 1) * block P + k.index
    position = is left.left_at.within (omega arith) ∙ number_at P (row - 1) k.index left.left_at.within

    pub row_entry : entry < length s.table.now
    row_entry = omega (arith, position, entry_in, s.room)

    pub row_cost : {v : ℕ} → Some v ≡ answer (loaded (get_or s.table.now entry 0))
        → Some (cost_in q.goal v) ≡ cost_answer q.goal (cost_to_go P row (k_at P k.index))
    row_cost {v} e =
        let held = rw position at e in
        let f = value_is (value P row (k_at P k.index)) (rw (s.filled row k.index some-row row_in left.left_at.within) at held) in
        rw ((value_some P row (k_at P k.index) v f).2)
