-- The kinds passed have what is left beside the others.
use Rattle.std.proofs.Common.{◌≡◌, ℕ, ◌-◌, ◌≤◌, ◌<◌, length, get_or}
use Rattle.jobs_left.proofs.JobsLeft.without.Given as goal

abbrev pub invariant-loop-j : goal.invariant-loop-j
invariant-loop-j l = record {
  long : length l.left-items ≡ 5;
  beside : (k : ℕ) → k < l.j → get_or l.left-items k 0 ≡ get_or l.self.left k 0 - get_or l.other.left k 0;
  rest : (k : ℕ) → l.j ≤ k → get_or l.left-items k 0 ≡ get_or l.self.left k 0;
}
