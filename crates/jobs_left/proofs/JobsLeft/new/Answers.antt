-- `Weighing` holds of no kinds and of one more.
use Rattle.std.proofs.Common.{◌≡◌, ◌≤◌, ◌<◌, length, get_or, arith}
use Rattle.std.proofs.lemmas.List.{length_push}
use Rattle.std.proofs.lemmas.Slice.Zip.{zip_turn}
use Rattle.jobs_left.specs.Kinds.{no_kind}
use Rattle.jobs_left.proofs.Weights.{weight_at}
use Rattle.jobs_left.proofs.Sums.{weighing_none, weighing_more}
use Rattle.jobs_left.proofs.JobsLeft.new.Goals as goal
use Rattle.jobs_left.proofs.JobsLeft.new.Goals.{In-Some}

-- the count and the kind of this turn
turn : (c : In-Some) → let j = length c.loop-n.yielded in
    (j < length c.args.left) × (j < length c.args.kinds.now) × ((d : _) → c.in-Some.n.now ≡ get_or c.args.left j d) × ((d : _) → c.in-Some.kind.now ≡ get_or c.args.kinds.now j d)
turn c =
    zip_turn c.args.left c.args.kinds.now c.loop-n.yielded c.into_iter-n-iterator.result c.loop-n.n-iterator c.next.new.self _ (cc) (cc)
    c.loop-n.yielded_by (c.in-Some.n, c.in-Some.kind) c.in-Some.is c.next.ensures.steps

pub loop-n-init : goal.loop-n-init
loop-n-init c = weighing_none

-- at most 60 jobs, for each of which at most 1000 pupils wait
bounds : (c : In-Some) → (c.in-Some.n.now ≤ 60) × (c.in-Some.kind.now.weight ≤ 1000)
bounds c =
    let (_, k, n, kind) = turn c in
    rw (n 0, kind no_kind) (c.requires.left_small _ k, omega (arith, c.requires.weights_small _ k, weight_at c.args.kinds.now (length c.loop-n.yielded)))

pub overflow_mul-n : goal.overflow_mul-n
overflow_mul-n c = let (few, light) = bounds (goal.at.overflow_mul-n c).In-Some in grind arith

pub overflow_add-weight : goal.overflow_add-weight
overflow_add-weight c =
    let at = (goal.at.overflow_add-weight c).In-Some in
    let (few, light) = bounds at in
    let within = turn at in
    let before = c.loop-n.invariant.light in
    grind arith

pub loop-n-preserved : goal.loop-n-preserved
loop-n-preserved c =
    let (l, k, n, kind) = turn (goal.at.loop-n-preserved c).In-Some in
    rw (length_push, c.from-weight.ensures, n 0, kind no_kind) (weighing_more c.loop-n.invariant (c.requires.left_small _ k) (c.requires.weights_small _ k) l)
