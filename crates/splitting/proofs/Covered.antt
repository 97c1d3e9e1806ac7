-- Where 19 is not due, each job is permitted at each place; and which of a kind's allowed places decide it.
-- Assumes nothing.
use mathlib.Core.Bool.{Bool, ◌&&◌}
use mathlib.Core.List.{List, [], ◌∷◌}
use mathlib.Core.Logic.{◌↔◌}
use mathlib.Core.Path.{◌≡◌, refl, ap}
use Prim.Native.Nat.{ℕ, zero, suc, ◌+◌, ◌≤◌, ◌<◌}
use native.Mathlib.Omega.{arith}
use lib.Dec.{T as Is, leb, leb→le, le→leb}
use Rattle.fields.specs.Fields.{within, all}
use Rattle.fields.specs.Lists.{tabulate}
use Rattle.fields.proofs.Codecs.{All}
use Rattle.fields.proofs.Tables.{all_tabulate, tabulate_all}
use Rattle.queue.specs.declared.Queue.{Queue}
use Rattle.queue.specs.Record.{first_place, last_place, kind, windows, Valid}
use Rattle.sequencing.specs.Lists.{from, upto}
use Rattle.sequencing.specs.Problem.{AllPermitted}
use Rattle.problem.specs.PlaceRule.{earliest, latest}
use Rattle.problem.specs.OfQueue.{problem}
use Rattle.problem.proofs.Tests.{and_l, and_r, and, same_test}
use Rattle.problem.proofs.Rule.{allowed_between, jobs_is}
use Rattle.splitting.specs.Covers.{covering, covers}

tested : {A : Type 0} (ok : A → Bool) (xs : List A) → Is (all ok xs) ↔ All (λ a. Is (ok a)) xs
unfolding all
tested ok [] = ((λ t. tt), (λ t. tt))
tested ok (x ∷ xs) = (
  (λ t. (and_l (ok x) (all ok xs) t, (tested ok xs).0 (and_r (ok x) (all ok xs) t))),
  (λ h. and (ok x) (all ok xs) h.0 ((tested ok xs).1 h.1)),
)

from_tabulated : (i n : ℕ) → from i n ≡ tabulate (λ p. p) i n
unfolding from tabulate
from_tabulated i zero = refl
from_tabulated i (suc n) = ap (λ ps. i ∷ ps) (from_tabulated (suc i) n)

-- allowed places cover 1 to T where each place from 1 to T is one of them
covering_is : (t a b : ℕ) → Is (covering t (a, b)) ↔ ((p : ℕ) → 1 ≤ p → p ≤ t → (a ≤ p) × (p ≤ b))
covering_is t a b = (
  (λ h p l u.
      let w = tabulate_all (λ p. p) (λ p. Is (within a b p)) 1 t (rw (from_tabulated 1 t) at ((tested (within a b) (upto t)).0 h)) p l (omega arith) in
      (leb→le a p (and_l (leb a p) (leb p b) w), leb→le p b (and_r (leb a p) (leb p b) w))),
  (λ h. (tested (within a b) (upto t)).1 (rw (from_tabulated 1 t) (all_tabulate (λ p. p) (λ p. Is (within a b p)) 1 t
      (λ p l u. let w = h p l (omega arith) in and (leb a p) (leb p b) (le→leb a p w.0) (le→leb p b w.1))))),
)

-- which the first of them and the last decide, where there are jobs
pub covering_ends : (t a b : ℕ) → 0 < t → covering t (a, b) ≡ leb a 1 && leb t b
covering_ends t a b h = same_test (covering t (a, b)) (leb a 1 && leb t b)
    (λ c. let w = (covering_is t a b).0 c in and (leb a 1) (leb t b) (le→leb a 1 (w 1 (omega arith) h).0) (le→leb t b (w t h (omega arith)).1))
    (λ c. (covering_is t a b).1 (λ p l u. omega (arith, leb→le a 1 (and_l (leb a 1) (leb t b) c), leb→le t b (and_r (leb a 1) (leb t b) c))))

-- no 19: each job is permitted at each place
pub covered : (q : Queue) → Valid q → Is (covers q) → AllPermitted (problem q)
unfolding covers earliest latest
covered q v c i p l u l' u' =
    let near : Bool = leb q.jobs (q.max_shift + 1) in
    let wide : Bool = all (covering q.jobs) (windows q) in
    let shift = leb→le q.jobs (q.max_shift + 1) (and_l near wide c) in
    let (low, high) = v.kinds_of_jobs i l (omega (arith, jobs_is q)) in
    let each = (tested (covering q.jobs) (windows q)).0 (and_r near wide c) in
    let j : ℕ = kind q i in
    let window = tabulate_all (λ j. (first_place q j, last_place q j)) (λ w. Is (covering q.jobs w)) 1 q.kinds each j low (omega arith) in
    let (a, b) = (covering_is q.jobs (first_place q j) (last_place q j)).0 window p l' (omega (arith, jobs_is q)) in
    rw (allowed_between q i p) (and (leb (earliest q i) p) (leb p (latest q i))
    (le→leb (earliest q i) p (omega (arith, shift, jobs_is q))) (le→leb p (latest q i) (omega (arith, shift, jobs_is q))))
