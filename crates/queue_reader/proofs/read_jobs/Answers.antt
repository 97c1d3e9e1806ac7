-- The number of jobs, then their kinds.
use Rattle.std.proofs.Common.{◌≡◌, ◌≤◌, ℕ, List, replicate, rules, ◌∙◌}
use Rattle.refusal.specs.declared.Reason.TheVariants.{Jobs}
use Rattle.number.specs.Readers.{found, times}
use Rattle.fields.specs.Fields.{field, within}
use Rattle.fields.proofs.Loops.{front_found, numbers_stored}
use Rattle.queue_reader.proofs.Records.{kind_field, jobs_read}
use Rattle.queue_reader.proofs.read_jobs.Goals as goal

pub returns : goal.returns
returns c =
    let s = c.args.input.now.bytes.now in
    let zeros : List ℕ = replicate 60 0 in
    let one = kind_field c.args.queue.kinds in
    let count : field 3 (within 0 60) Jobs s c.args.input.now.at ≡ found c.in_ok-jobs.jobs c.read_field.new.input.at = search rules in
    let few : c.in_ok-jobs.jobs ≤ 60 = search rules in
    let same : c.read_field.new.input.bytes ≡ c.args.input.now.bytes = search rules in
    let run = c.in_ok-read_run.ensures.value in
    let (kinds, g) = front_found _ zeros few (λ k. times k one s c.read_field.new.input.at) _ (rw same at run.1) in
    let array = numbers_stored _ zeros _ few one s _ (rw same at c.read_run.ensures.out_after) kinds _ g in
    (run.0 ∙ same, jobs_read c.args.queue _ _ s _ _ count kinds _ g array)
