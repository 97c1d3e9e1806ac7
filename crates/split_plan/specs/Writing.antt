-- Writing a split plan's message.
use Rattle.std.specs.Prelude.{ℕ, List, [], ◌∷◌, ◌++◌}
use Rattle.number.specs.Numbers.{encode}
use Rattle.fields.specs.Fields.{encode_all}
use Rattle.split_plan.specs.declared.Cutter.{Cutter}
use Rattle.split_plan.specs.declared.SplitPlan.{SplitPlan}
use Rattle.split_plan.specs.Record.{job_list}

-- a cutter's count and jobs
abbrev pub cutter_bytes : Cutter → List ℕ
cutter_bytes c = encode c.jobs ++ encode_all (job_list c)

-- bytes 51 32, then edition 1, goal, cost, the first cutter's count and jobs, the second's count and jobs
unfoldable pub message : SplitPlan → List ℕ
message p = (0x51 ∷ 0x32 ∷ []) ++ encode 1 ++ encode p.goal ++ encode p.cost ++ cutter_bytes p.first ++ cutter_bytes p.second
