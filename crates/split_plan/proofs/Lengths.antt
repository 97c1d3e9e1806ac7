-- How long a split plan's message can be.
-- Assumes nothing.
use Prim.Native.Nat.{ℕ, ◌+◌, ◌<◌, ◌≤◌}
use mathlib.Core.Path.{◌≡◌, refl, ap}
use mathlib.Core.List.{List, [], ◌∷◌, ◌++◌, flat_map}
use native.Mathlib.Omega.{arith}
use lib.ListN.{length, length-append}
use Rattle.number.specs.Numbers.{encode}
use Rattle.number.proofs.Encoding.{encode_small, length_encode}
use Rattle.fields.specs.Fields.{encode_all}
use Rattle.fields.proofs.Codecs.{All}
use Rattle.fields.proofs.Tables.{all_tabulate}
use Rattle.split_plan.specs.declared.Cutter.{Cutter}
use Rattle.split_plan.specs.declared.SplitPlan.{SplitPlan}
use Rattle.split_plan.specs.Record.{job, job_list, Numbered, Bounded}
use Rattle.split_plan.specs.Writing.{cutter_bytes, message}
use Rattle.split_plan.proofs.Cutters.{job_list_length}

-- numbers below 128 are their own bytes
one_byte_each : (xs : List ℕ) → All (λ j. j < 128) xs → encode_all xs ≡ xs
unfolding flat_map
one_byte_each [] h = refl
one_byte_each (x ∷ xs) h = rw (encode_small x h.0) (ap (λ (l : List ℕ). x ∷ l) (one_byte_each xs h.1))

-- a cutter's count and jobs are a byte each
cutter_length : (c : Cutter) → c.jobs < 128 → Numbered c → length (cutter_bytes c) ≡ 1 + c.jobs
cutter_length c few small =
    let jobs = one_byte_each (job_list c) (all_tabulate (job c) (λ j. j < 128) 1 c.jobs (λ k l u. omega (arith, small k l (omega arith)))) in
    rw (encode_small c.jobs few, jobs) (omega (arith, job_list_length c))

lengths : (o g c f s : List ℕ) → length (o ++ g ++ c ++ f ++ s) ≡ length o + length g + length c + length f + length s
lengths o g c f s = simp length-append

-- the opening and the edition are three bytes, the goal one, the cost six at most, each cutter's count one, the jobs sixty at most
pub message_length : (p : SplitPlan) → Bounded p → length (message p) ≤ 72
unfolding message
message_length p b =
    let goal : length (encode p.goal) ≤ 1 = length_encode 1 p.goal (omega arith) (omega (arith, b.goal)) in
    let cost : length (encode p.cost) ≤ 6 = length_encode 6 p.cost (omega arith) b.cost in
    let few = b.jobs in
    let first = cutter_length p.first (omega arith) b.first in
    let second = cutter_length p.second (omega arith) b.second in
    let opened : List ℕ = (0x51 ∷ 0x32 ∷ []) ++ encode 1 in
    let three : length opened ≡ 3 = rw (encode_small 1 (omega arith)) (omega arith) in
    let whole = lengths opened (encode p.goal) (encode p.cost) (cutter_bytes p.first) (cutter_bytes p.second) in
    omega (arith, goal, cost, first, second, three, whole)
