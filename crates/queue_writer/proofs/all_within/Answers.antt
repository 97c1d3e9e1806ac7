-- `all` answers as the recursion does.
use Rattle.std.proofs.Common.{◌∷◌, [], ap, ◌∙◌, rules}
use Rattle.std.proofs.iter.runs.Made.{chains}
use Rattle.fields.specs.Fields.{all, within}
use Rattle.queue_writer.proofs.Tests.{all_append, all_is}
use Rattle.queue_writer.proofs.all_within.Goals as goal

pub returns : goal.returns
unfolding all
returns g c =
    let numbers = g.T.Held.numbers in
    let ok = within c.args.low c.args.high in
    all_is (λ xs. all ok (numbers xs)) (ap (all ok) g.met.T.Held.numbers_none)
    (λ x xs. ap (all ok) (g.met.T.Held.numbers_more x xs) ∙ all_append ok (numbers (x ∷ [])) (numbers xs)) c.args.values.now _
    (λ e d i h. search (rules, chains)) (λ e. (search (rules, chains), λ d. search (rules, chains)))
