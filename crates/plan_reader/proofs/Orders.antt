-- Reading the jobs of a plan, one place after the other: the loop's invariant, and what a turn does to it.
-- Assumes nothing.
use Prim.Native.Nat.{ℕ, ◌+◌, ◌<◌, ◌≤◌}
use mathlib.Core.Path.{◌≡◌, refl}
use mathlib.Core.List.{List, [], ◌++◌}
use native.Mathlib.Omega.{arith}
use native.Mathlib.Numerals.{add-one}
use lib.ListN.{length, take, drop, set, length-set}
use lib.Seq.{sets, take-suc-set}
use Rattle.number.specs.Readers.{found}
use Rattle.fields.specs.Orders.{followed_by}
use Rattle.fields.proofs.Runs.{all_listed, in_order_lem, few_before}
use Rattle.fields.proofs.Loops.{Looping, loop_more, front_stored}
use Rattle.plan.specs.Reading.{order}
use Rattle.plan_reader.specs.Jobs.{job_after, order_before}

-- before place k + 1, at position i: the jobs stored so far are those by which the next is judged
pub record Ordering (s : List ℕ) (at : ℕ) (out₀ out : List ℕ) (i k : ℕ) : Type 0 where
  pub long : length out ≡ length out₀
  pub loop : Looping (in_order_lem (job_after (length out₀)) followed_by s) sets (length out₀) (order (length out₀) s at)
      (sets out₀ 0 (order_before (length out₀) s at)) (take k out) out i k

module _ {s : List ℕ} {at : ℕ} {out₀ : List ℕ} where
  pub order_again : {out : List ℕ} {i k : ℕ} → Ordering s at out₀ out i k → (v next : ℕ) → k < length out₀ → job_after (length out₀) (take k out) s i ≡ found v next
      → Ordering s at out₀ (set out k v) next (k + 1)
  order_again {out} {i} {k} w v next h e =
      let one : take (k + 1) (set out k v) ≡ followed_by (take k out) v = rw (add-one k) (take-suc-set out k v (omega (arith, w.long))) in
      record { long = simp length-set w.long; loop = rw one (loop_more w.loop h v next (set out k v) e (λ rest. refl)) }

-- an order that was stored in the first t places of an array
pub order_stored : (t : ℕ) (l out : List ℕ) → t ≤ length l → (s : List ℕ) (i : ℕ) → out ≡ sets (take t l) 0 (order_before (length (take t l)) s i)
    → (jobs : List ℕ) (j : ℕ) → order t s i ≡ found jobs j → out ++ drop t l ≡ sets l 0 jobs
order_stored t l out room s i e jobs j f =
    front_stored t l room (λ k. order_before k s i) (few_before (job_after t) followed_by t [] s i) out e jobs
    (all_listed (in_order_lem (job_after t) followed_by s) t [] i jobs j f)
