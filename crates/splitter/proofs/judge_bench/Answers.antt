-- 19, then 20, then two cutters can have the queue.
use Rattle.std.proofs.Common.{rules, Ok, Err, ◌≡◌, Bool, true, false, refl, T as Is, sym, ◌∙◌}
use mathlib.Core.Logic.{inl, inr}
use mathlib.Mathlib.Data.Bool.Basic.{dichotomy}
use lib.Dec.{ltb}
use borrow.Author.Tests.{le-leb, lt-leb, ltb-true, ltb-false}
use Rattle.refusal.specs.declared.Reason.{Reason}
use Rattle.refusal.specs.Answers.{Verdict}
use Rattle.fields.specs.Messages.{check}
use Rattle.queue.specs.declared.Queue.{Queue}
use Rattle.splitting.specs.Covers.{covers}
use Rattle.best_split.proofs.Endings.{bench_uncovered, bench_second, bench_accepted}
use Rattle.splitter.proofs.judge_bench.Goals as goal

-- what a check's answer says of its test
failed : (b : Bool) (why r : Reason) → ◌≡◌ {A = Verdict} (Err r) (check b why) → (b ≡ false) × (r ≡ why)
failed true why r e = cc
failed false why r e = (refl, cc)

passed : (b : Bool) (why : Reason) → ◌≡◌ {A = Verdict} (Ok tt) (check b why) → b ≡ true
passed true why e = refl
passed false why e = cc

pub returns-in_err-check : goal.returns-in_err-check
returns-in_err-check c =
    let refused : c.from_residual.result ≡ Err c.in_err-check.field-0.0 = search rules in
    let (uncovered, why) = failed _ _ _ c.in_err-check.ensures in
    rw (refused, why) (sym (bench_uncovered c.args.queue.now.queue c.args.second (sym c.covers_all.ensures ∙ uncovered)))

pub returns : goal.returns
returns c =
    let q : Queue = c.args.queue.now.queue in
    let covering : Is (covers q) = rw (sym c.covers_all.ensures ∙ passed _ _ c.in_ok-check.ensures) tt in
    elim (dichotomy (ltb q.kinds c.args.second)) [
      | inr t ↦ (let over = ltb-true q.kinds c.args.second t in
          rw (c.check-2.ensures, lt-leb c.args.second q.kinds over) (sym (bench_second q c.args.second covering over)))
      | inl t ↦ (let in_range = ltb-false q.kinds c.args.second t in
          rw (c.check-2.ensures, le-leb c.args.second q.kinds in_range) (sym (bench_accepted q c.args.second covering in_range)))
    ]
