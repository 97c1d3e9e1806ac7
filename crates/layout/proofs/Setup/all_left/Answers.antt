-- Of each kind at most 60 jobs are left, for each of which at most 1000 pupils wait.
use Rattle.std.proofs.Common.{rules, ◌≡◌, ◌-◌, ap, ◌∙◌, arith}
use Rattle.std.proofs.lemmas.Grind.{common_steps}
use Rattle.jobs_left.specs.Kinds.{no_kind}
use Rattle.fields.specs.Lists.{filled}
use Rattle.sequencing.specs.States.{all_left}
use Rattle.problem.specs.OfQueue.{problem}
use Rattle.jobs_left.proofs.LeftAt.{summed_left}
use Rattle.layout.proofs.Prepared.{known}
use Rattle.layout.proofs.AllLeft.{some_block, counts_held, counts_small, weights_small, last_left}
use Rattle.layout.proofs.Setup.all_left.Goals as goal
use Rattle.layout.proofs.Setup.all_left.Goals.{After-map-left}

-- what the closure gives of each kind
held : (c : After-map-left) → c.map-left.result ≡ filled 5 (all_left (problem c.args.self.now.queue))
held c = counts_held c.args.self.now.prepared c.map-left.result c.map-left.ensures.items.long
    (λ i h. let one = (c.map-left.ensures.items.at i no_kind 0 h).2 in search rules)

pub overflow_sub-self : goal.overflow_sub-self
overflow_sub-self c = some_block c.args.self.now.prepared

pub new-requires-clause-left_small : goal.new-requires-clause-left_small
new-requires-clause-left_small c = λ j h. rw (held (goal.at.new-requires-clause-left_small c).After-map-left) (counts_small c.args.self.now.valid j)

pub new-requires-clause-weights_small : goal.new-requires-clause-weights_small
new-requires-clause-weights_small c = λ j h. weights_small c.args.self.now.valid _ j (grind (arith, common_steps))

pub returns-clause-left_value : goal.returns-clause-left_value
returns-clause-left_value c = c.new.ensures.left_value ∙ held (goal.at.returns-clause-left_value c).After-map-left

pub returns-clause-left_of : goal.returns-clause-left_of
returns-clause-left_of c =
    let s = c.args.self.now in
    let n = c.new.ensures in
    let all = n.left_value ∙ held (goal.at.returns-clause-left_of c).After-map-left in
    let last = n.index_value ∙ ap (λ b. b - 1) s.prepared.block_is in
    summed_left (known s.queue) c.new.result (rw (all, last) (last_left s.valid)) (rw (← n.left_value, c.kinds.ensures) at n.summed)
