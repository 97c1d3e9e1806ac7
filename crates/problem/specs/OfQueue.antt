-- 01's queue as a problem: the term of the theory that each field of the record is.
use Rattle.gaps.specs.Gaps.{gap_between}
use Rattle.sequencing.specs.Problem.{Problem}
use Rattle.queue.specs.declared.Queue.{Queue}
use Rattle.queue.specs.Record.{weight, kind_list}
use Rattle.problem.specs.PlaceRule.{allowed}

-- 01's queue: N, the kinds of the T jobs by hand-in, s, gap(i, j) as 02 looks it up, the goal, w_j, and which places are permitted
abbrev pub problem : Queue → Problem
problem q = record {
  N = q.kinds;
  jobs = kind_list q;
  start = q.start;
  gap = gap_between q.gaps;
  goal = q.goal;
  weight = weight q;
  ok = allowed q;
}
