-- Records with the same counts and the same lists are the same up to N and T.
-- Assumes nothing.
use Prim.Native.Nat.{ℕ, ◌+◌}
use mathlib.Core.Path.{◌≡◌, ap}
use mathlib.Core.List.{List}
use native.Mathlib.Omega.{arith}
use Rattle.fields.specs.Lists.{tabulate}
use Rattle.fields.proofs.Tables.{tabulate_same}
use Rattle.queue.specs.declared.Queue.{Queue}
use Rattle.queue.specs.Record.{gap, weight, first_place, last_place, kind, rows, weight_list, windows, kind_list, Same}

-- N, goal, m, s and T, then what stands up to them
pub record Alike (p q : Queue) : Type 0 where
  pub kinds : p.kinds ≡ q.kinds
  pub goal : p.goal ≡ q.goal
  pub shift : p.max_shift ≡ q.max_shift
  pub start : p.start ≡ q.start
  pub jobs : p.jobs ≡ q.jobs
  pub rows : rows p ≡ rows q
  pub weights : weight_list p ≡ weight_list q
  pub windows : windows p ≡ windows q
  pub kind_list_lem : kind_list p ≡ kind_list q

pub alike_same : {p q : Queue} → Alike p q → Same p q
alike_same {p} {q} h =
    let n = q.kinds in
    let row : Queue → ℕ → List ℕ = λ r i. tabulate (gap r i) 1 n in
    let places : Queue → ℕ → ℕ × ℕ = λ r j. (first_place r j, last_place r j) in
    let rows_same = tabulate_same (row p) (row q) 0 (n + 1) (rw h.kinds at h.rows) in
    let places_same = tabulate_same (places p) (places q) 1 n (rw h.kinds at h.windows) in
    record {
      kinds = h.kinds;
      goal = h.goal;
      shift = h.shift;
      start = h.start;
      gaps = λ i j a b d. tabulate_same (gap p i) (gap q i) 1 n (rows_same i (omega arith) (omega arith)) j b (omega arith);
      weights = λ j a b. tabulate_same (weight p) (weight q) 1 n (rw h.kinds at h.weights) j a (omega arith);
      places = λ j a b. let e = places_same j a (omega arith) in (ap (λ (w : ℕ × ℕ). w.0) e, ap (λ (w : ℕ × ℕ). w.1) e);
      jobs = h.jobs;
      kinds_of_jobs = λ i a b. tabulate_same (kind p) (kind q) 1 q.jobs (rw h.jobs at h.kind_list_lem) i a (omega arith);
    }
