-- The jobs of a cutter as a list: how many there are, and the cutter that holds a list.
-- Assumes nothing.
use Prim.Native.Nat.{ℕ, ◌≤◌}
use mathlib.Core.Path.{◌≡◌, refl, sym, ap, ◌∙◌}
use mathlib.Core.Logic.{◌↔◌}
use mathlib.Core.List.{List}
use native.Mathlib.Omega.{arith}
use lib.ListN.{length}
use Rattle.fields.proofs.Tables.{length_tabulate, tabulate_ext, tabulate_same}
use Rattle.fields.proofs.Arrays.{array_back}
use Rattle.split_plan.specs.declared.Cutter.{Cutter}
use Rattle.split_plan.specs.Record.{job, job_list, cutter_of, SameJobs}

pub job_list_length : (c : Cutter) → length (job_list c) ≡ c.jobs
job_list_length c = length_tabulate (job c) 1 c.jobs

-- a cutter made of a list has these jobs
pub held : (js : List ℕ) → length js ≤ 60 → job_list (cutter_of js) ≡ js
held js h = array_back 60 (length js) js refl h

-- cutters have the same jobs exactly when their lists are the same
pub same_lists : (c d : Cutter) → (job_list c ≡ job_list d) ↔ SameJobs c d
same_lists c d = (
  λ e.
      let n : c.jobs ≡ d.jobs = sym (job_list_length c) ∙ ap length e ∙ job_list_length d in
      record { jobs = n; order = λ place l u. tabulate_same (job c) (job d) 1 d.jobs (rw n at e) place l (omega arith) },
  λ s. rw s.jobs (tabulate_ext (job c) (job d) 1 d.jobs (λ k l u. s.order k l (omega arith))),
)
