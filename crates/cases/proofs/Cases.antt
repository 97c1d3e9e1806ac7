-- The one checked list of cases.
use Rattle.number.proofs.Examples.{examples as numbers}
use Rattle.queue.proofs.Examples.{examples as queues}
use Rattle.plan.proofs.Examples.{examples as plans}
use Rattle.problem.proofs.Cases.{cases as orders}
use Rattle.problem.proofs.Forbidden.{forbidden}
use Rattle.cases.specs.Cases.{Cases}
use Rattle.cases.proofs.Planning.{planning}

pub cases : Cases
cases = (numbers, queues, plans, orders, forbidden, planning)
