-- `Listing` begins, goes on with each job, and at the end says what is listed.
use Rattle.std.proofs.Common.{arith}
use Rattle.layout.proofs.Listing.{listing_none, listing_same, listing_other, listing_done}
use Rattle.layout.proofs.list_kind.Goals as goal
use Rattle.layout.proofs.list_kind.Goals.{then-own-kind, else-own-kind}

pub loop-i-init : goal.loop-i-init
loop-i-init c = listing_none

pub loop-i-preserved : goal.loop-i-preserved
loop-i-preserved c =
    let w = c.loop-i.invariant in
    elim c.if-own-kind.branch [
      | then-own-kind b ↦ rw (b.jobs-is, b.listed-is) (listing_same w b.if-own-kind.true)
      | else-own-kind b ↦ rw (b.jobs-is, b.listed-is) (listing_other w b.if-own-kind.false)
    ]

pub returns-clause-value : goal.returns-clause-value
returns-clause-value c = (listing_done c.loop-i.invariant (omega arith)).0

pub returns-clause-jobs_after : goal.returns-clause-jobs_after
returns-clause-jobs_after c = (listing_done c.loop-i.invariant (omega arith)).1
