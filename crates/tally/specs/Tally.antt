-- A tally of plans and refusals.
use Rattle.refusal.specs.Answers.{Answer}
use Rattle.std.specs.Prelude.{ℕ, ◌+◌, min, Ok, Err}
use Rattle.tally.specs.declared.Tally.{Tally}

-- one more, and 4294967295 once there
abbrev pub raised : ℕ → ℕ
raised n = min (n + 1) 4294967295

-- the tally after an answer: one is added to the fitting counter
abbrev pub tallied : Answer → Tally → Tally
tallied (Ok n) t = record { plans = raised t.plans; refusals = t.refusals }
tallied (Err r) t = record { plans = t.plans; refusals = raised t.refusals }
