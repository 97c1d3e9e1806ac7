-- `any` answers as the recursion does.
use Rattle.std.proofs.Common.{refl, eqb, rules}
use Rattle.std.proofs.iter.runs.Made.{chains}
use Rattle.std.proofs.lemmas.List.Recursion.{or_is}
use Rattle.fields.specs.Lists.{stands_in}
use Rattle.fields.proofs.stands_in.Goals as goal

pub returns : goal.returns
unfolding stands_in
returns c = or_is (stands_in c.args.value) (eqb c.args.value) refl (λ x xs. refl) c.args.values.now 0 _ (λ e. search (rules, chains)) (λ e i h. search (rules, chains))
