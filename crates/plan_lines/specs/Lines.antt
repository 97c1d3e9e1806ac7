-- What the program prints for a place of a plan.
use Rattle.std.specs.Prelude.{List, map, ℕ}
use Rattle.sequencing.specs.Lists.{at}
use Rattle.sequencing.specs.Problem.{Problem, kind}
use Rattle.sequencing.specs.Orders.{finishes}
use Rattle.plan.specs.declared.Plan.{Plan}
use Rattle.plan_lines.specs.declared.Line.{Line}

module _ (P : Problem) where
  -- the finish at a place of an order, from 1 on (0 where there is none): by 01's finishes of the kinds of its jobs
  abbrev pub finish_at : List ℕ → ℕ → ℕ
  finish_at o place = at (finishes P.gap P.start 0 (map (kind P) o)) place

  -- 01's printed line of a plan: place, job, kind, finish
  abbrev pub line_at : Plan → ℕ → Line
  line_at plan place =
      let job : ℕ = at plan.order place in
      record { place = place; job = job; kind = kind P job; finish = record { 0 = finish_at plan.order place } }
