-- The kinds are listed, then their blocks set, then their places.
use Rattle.std.proofs.Common.{refl, length-take-le, arith}
use Rattle.problem.proofs.Sizes.{entries_small}
use Rattle.layout.proofs.ByKind.{kinds_known}
use Rattle.layout.proofs.Prepared.{kind_in}
use Rattle.layout.proofs.lay_out.Goals as goal

pub set_blocks-requires : goal.set_blocks-requires
set_blocks-requires c =
    let q = c.args.queue.now in
    let listed = c.list_jobs-block in
    rw (length-take-le q.queue.kinds listed.new.kinds (omega arith), listed.ensures.value) (omega (arith, entries_small q.queue q.valid))

pub set_places-requires : goal.set_places-requires
set_places-requires c =
    let q = c.args.queue.now in
    let listed = c.list_jobs-block.ensures in
    let known = kinds_known q.valid listed.kinds_after c.set_blocks.ensures listed.value in
    record { kinds_are = kind_in q.queue q.valid known; jobs_by_kind = listed.jobs_after }

pub returns : goal.returns
returns c =
    let listed = c.list_jobs-block.ensures in
    record {
      kinds_are = refl;
      jobs_are = refl;
      block_is = listed.value;
      known_kinds = kinds_known c.args.queue.now.valid listed.kinds_after c.set_blocks.ensures listed.value;
      jobs_by_kind = listed.jobs_after;
      places_are = c.set_places.ensures;
      gaps_are = c.new.ensures;
    }
