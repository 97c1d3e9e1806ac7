-- `all` answers as the recursion does.
use Rattle.std.proofs.Common.{refl, rules}
use Rattle.std.proofs.iter.runs.Made.{chains}
use Rattle.std.proofs.lemmas.List.Recursion.{and_is}
use Rattle.fields.specs.Fields.{all}
use Rattle.queue.specs.Record.{no_window, window_ok, pair_of, window_pairs}
use Rattle.queue_writer.proofs.judge_windows.Goals as goal

pub returns : goal.returns
unfolding all
returns c =
    and_is (λ ws. all window_ok (window_pairs ws)) (λ w. window_ok (pair_of w)) refl (λ w ws. refl) c.args.windows.now no_window _
    (λ e i h. search (rules, chains)) (λ e. search (rules, chains))
