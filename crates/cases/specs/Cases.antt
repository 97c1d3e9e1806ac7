-- Document 01's cases, one checked list: I of numbers; A, B, G and I (by 02) of queue messages; A and B of plan messages; A to H of orders, with the
-- source's chapter 5; A with 02's nevers; A to H, and A with nevers, of planning calls on bytes.
use Rattle.number.specs.Examples.{Examples as Numbers}
use Rattle.queue.specs.Examples.{Examples as Queues}
use Rattle.plan.specs.Examples.{Examples as Plans}
use Rattle.problem.specs.Cases.{Cases as Orders}
use Rattle.problem.specs.Forbidden.{Forbidden}
use Rattle.cases.specs.Planning.{Planning}

abbrev pub Cases : Type 0
Cases = Numbers × Queues × Plans × Orders × Forbidden × Planning
