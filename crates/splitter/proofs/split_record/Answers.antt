-- 19 or 20, or what becomes of what is lent.
use Rattle.std.proofs.Common.{rules, Err, ◌≡◌, sym, true}
use Rattle.problem.proofs.Tests.{same_test}
use Rattle.splitting.specs.Covers.{covers}
use Rattle.best_split.proofs.Endings.{bench_enough, bench_refused, bench_passed}
use Rattle.splitter.proofs.split_record.Goals as goal

pub returns-in_err-judge_bench-clause-value : goal.returns-in_err-judge_bench-clause-value
returns-in_err-judge_bench-clause-value c =
    let refused : c.from_residual.result ≡ Err c.in_err-judge_bench.field-0.0 = search rules in
    rw (refused, bench_refused _ _ _ _ _ (sym c.in_err-judge_bench.ensures))

pub returns-in_err-judge_bench-clause-leaves_table : goal.returns-in_err-judge_bench-clause-leaves_table
returns-in_err-judge_bench-clause-leaves_table c = rw (bench_refused _ _ _ _ _ (sym c.in_err-judge_bench.ensures))

pub returns-in_err-judge_bench-clause-buffer_after : goal.returns-in_err-judge_bench-clause-buffer_after
returns-in_err-judge_bench-clause-buffer_after c = rw (bench_refused _ _ _ _ _ (sym c.in_err-judge_bench.ensures))

pub invariant_of-split_lent : goal.invariant_of-split_lent
invariant_of-split_lent c =
    let (covering, second_in) = bench_enough _ _ (sym c.in_ok-judge_bench.ensures) in
    record { covered = same_test (covers c.args.queue.queue) true (λ _. tt) (λ _. covering); second_in = second_in }

pub returns-clause-value : goal.returns-clause-value
returns-clause-value c = rw (bench_passed _ _ _ _ (sym c.in_ok-judge_bench.ensures)) c.split_lent.ensures.value

pub returns-clause-leaves_table : goal.returns-clause-leaves_table
returns-clause-leaves_table c = rw (bench_passed _ _ _ _ (sym c.in_ok-judge_bench.ensures)) c.split_lent.ensures.leaves_table

pub returns-clause-buffer_after : goal.returns-clause-buffer_after
returns-clause-buffer_after c = rw (bench_passed _ _ _ _ (sym c.in_ok-judge_bench.ensures)) c.split_lent.ensures.buffer_after
