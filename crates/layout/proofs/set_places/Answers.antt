-- Each kind's jobs and slots have room, and its slots are set behind those of the kinds before it.
use Rattle.std.proofs.Common.{◌≡◌, refl, ap, ◌∙◌, length-take, arith}
use Rattle.layout.specs.Prepared.{by_slot}
use Rattle.layout.proofs.Places.{slots_of, slots_none, next_kind, slots_more}
use Rattle.layout.proofs.set_places.Goals as goal

pub loop-j-init : goal.loop-j-init
loop-j-init c = slots_none _ _

pub loop-j-preserved : goal.loop-j-preserved
loop-j-preserved c =
    let v = c.args.queue.now.valid in
    slots_more v c.requires (next_kind v c.requires c.loop-j-test.true) c.args.places.now (omega arith) c.loop-j.invariant refl c.set_kind_places.ensures

pub returns : goal.returns
unfolding by_slot
returns c =
    let q = c.args.queue.now.queue in
    let all : c.loop-j.j ≡ q.kinds = omega (arith, length-take q.kinds c.args.kinds.now, c.args.queue.now.valid.kinds) in
    c.loop-j.invariant ∙ ap (slots_of q c.args.places.now) all
