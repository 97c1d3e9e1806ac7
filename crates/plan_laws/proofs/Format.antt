-- The plan message as one format; the definitions say it, so the laws of formats hold of them.
-- Assumes nothing.
use Prim.Native.Nat.{ℕ, ◌-◌, ◌^◌, ◌<◌, ◌≤◌}
use mathlib.Core.Path.{◌≡◌, refl}
use mathlib.Core.Bool.{not}
use mathlib.Core.List.{List, [], ◌∷◌, ◌++◌, append_assoc}
use native.Mathlib.Omega.{arith}
use borrow.Author.Tests.{lt-ltb}
use Rattle.refusal.specs.declared.Reason.{Reason}
use Rattle.refusal.specs.declared.Reason.TheVariants.{Groups, Edition, Goal, Jobs, Job, Opening, LeftOver}
use Rattle.number.specs.Numbers.{encode}
use Rattle.fields.specs.Fields.{within, encode_all}
use Rattle.fields.specs.Lists.{stands_in}
use Rattle.fields.specs.Messages.{check}
use Rattle.fields.specs.Orders.{followed_by}
use Rattle.fields.proofs.Judged.{and_true, within_true, true_within}
use Rattle.fields.proofs.Tables.{all_tabulate}
use Rattle.plan.specs.declared.Plan.{Plan}
use Rattle.plan.specs.Record.{fresh, job, job_list, Valid}
use Rattle.plan.specs.Reading.{plan, plan_of, cleared}
use Rattle.plan.specs.Writing.{message, judge}
use Rattle.formats.proofs.Verdicts.{judged_accepts}
use Rattle.formats.proofs.Formats.{Format}
use Rattle.formats.proofs.Telling.{rejudged}
use Rattle.formats.proofs.Numbers.{any_number, one_byte}
use Rattle.formats.proofs.Pairs.{and_next, and_assoc}
use Rattle.formats.proofs.Runs.{each_all}
use Rattle.formats.proofs.Ordered.{ordered}
use Rattle.formats.proofs.Whole.{whole}
use Rattle.formats.proofs.Messages.{Message, Tied, laws}
use Rattle.plan_laws.proofs.JobLists.{held, job_list_length}
use Rattle.plan_laws.proofs.Judging.{valid_bounded, bounded_valid}

-- ---- the job at each place

-- T of them, each fresh after the earlier ones
abbrev order_format : {Given : Type 0} (t : ℕ) → (Given → t ≤ 60) → Format (List ℕ) Given 60 62 (Job ∷ [])
order_format t few = ordered (fresh t) Job 1 (omega arith)
    (λ z earlier j e. let k = few z in let b = within_true 1 t j (and_true (within 1 t j) (not (stands_in j earlier)) e).0 in (omega arith, omega arith)) t 60 few

-- ---- the whole message

-- cost and kept count: above 2^42 − 1 they cannot be written
abbrev long_number : {Given : Type 0} → Format ℕ Given 6 6 []
long_number =
    let F = any_number 6 (omega arith) in
    rejudged F (record {
      Ok = λ v. v < 2 ^ 42;
      Known = F.Known;
      known = λ z v k. tt;
      finds = λ z s at v n e. let r = F.reads z s at v n e in (r.0, r.1);
      Sized = F.Sized;
      judge = λ v. check (within 0 (2 ^ 42 - 1) v) Groups;
      ok_is = λ z v. (λ k. k, λ k. k);
      short = F.short;
      accepts = λ z v _. (
        λ e. let b = within_true 0 (2 ^ 42 - 1) v ((judged_accepts (within 0 (2 ^ 42 - 1) v) Groups).0 e) in omega arith,
        λ k. (judged_accepts (within 0 (2 ^ 42 - 1) v) Groups).1 (true_within 0 (2 ^ 42 - 1) v (omega arith) (omega arith)),
      );
      sized_is = λ v n. n;
      judge_is = λ v k. rw (true_within 0 (2 ^ 42 - 1) v (omega arith) (omega arith), lt-ltb v (128 ^ 6) k);
    })

abbrev Parts : Type 0
Parts = ℕ × (ℕ × (ℕ × (ℕ × (ℕ × List ℕ))))

-- edition 1, goal, cost, kept count, T, then the job at each place
abbrev plan_format : Format Parts (Unit {0}) 75 77 (Edition ∷ Goal ∷ Jobs ∷ Job ∷ [])
plan_format =
    and_next (one_byte 1 1 Edition (λ z. omega arith)) λ edition.
    and_next (one_byte 1 2 Goal (λ z. omega arith)) λ goal.
    and_next long_number λ cost.
    and_next long_number λ states.
    and_next (one_byte 0 60 Jobs (λ z. omega arith)) λ t.
    order_format t (λ z. omega arith)

-- ---- the definitions say it

abbrev view : Plan → Parts
view p = (1, (p.goal, (p.cost, (p.feasible_states, (p.jobs, job_list p)))))

abbrev make : Parts → Plan
make p = plan_of p.1.0 p.1.1.0 p.1.1.1.0 p.1.1.1.1.0 p.1.1.1.1.1

read_is : (s : List ℕ) → plan s 0 ≡ whole 0x51 0x50 plan_format make s 0
unfolding plan
read_is s = simp and_assoc

grouped : (o e g c k t js : List ℕ) → o ++ e ++ g ++ c ++ k ++ t ++ js ≡ o ++ (e ++ (g ++ (c ++ (k ++ (t ++ js)))))
grouped o e g c k t js = simp append_assoc

message_is : (p : Plan) → message p ≡ (0x51 ∷ 0x50 ∷ []) ++ plan_format.write (view p)
unfolding message
message_is p = grouped (0x51 ∷ 0x50 ∷ []) (encode 1) (encode p.goal) (encode p.cost) (encode p.feasible_states) (encode p.jobs) (encode_all (job_list p))

judge_is : (p : Plan) → judge p ≡ plan_format.judge (view p)
unfolding judge
judge_is p = refl

holds : (p : Parts) → plan_format.Known p → view (make p) ≡ p
holds p k =
    let one : 1 ≡ p.0 = omega (arith, k.0) in
    let jobs = held p.1.0 p.1.1.0 p.1.1.1.0 p.1.1.1.1.0 p.1.1.1.1.1 k.1.1.1.1.1.0 k.1.1.1.1.0.1 in
    λ i. (one i, (p.1.0, (p.1.1.0, (p.1.1.1.0, (p.1.1.1.1.0, jobs i)))))

-- numbers of at most three groups, cost and kept count of at most six
pub record Fits (p : Plan) : Type 0 where
  pub goal : p.goal < 2 ^ 21
  pub cost : p.cost < 2 ^ 42
  pub states : p.feasible_states < 2 ^ 42
  pub jobs : p.jobs < 2 ^ 21
  pub order : (place : ℕ) → 1 ≤ place → place ≤ p.jobs → job p place < 2 ^ 21

tied : Tied 0x51 0x50 plan_format make view plan message Valid (λ p. plan_format.Known (view p)) Fits judge cleared
tied = record {
  read_is = read_is;
  message_is = message_is;
  valid_is = λ p. (
    λ k. bounded_valid p (record { goals = k.1.0; costs = k.1.1.0; counts = k.1.1.1.0; few = k.1.1.1.1.0.1; each = k.1.1.1.1.1.1 }),
    λ v. let b = valid_bounded p v in ((omega arith, omega arith), (b.goals, (b.costs, (b.counts, ((omega arith, b.few), (job_list_length p, b.each)))))),
  );
  known_is = λ p k. k;
  fits_is = λ p f. (omega arith, (f.goal, (f.cost, (f.states, (f.jobs, (each_all followed_by [] (λ j. j < 2 ^ 21) (job_list p)).1 (all_tabulate (job p) _ 1 p.jobs (λ k a b. f.order k a (omega arith))))))));
  judge_is = judge_is;
  cleared_is = λ p. refl;
  sized = λ p. (tt, (tt, (tt, (tt, (tt, job_list_length p)))));
  holds = holds;
}

abbrev pub plan_refusals : List Reason
plan_refusals = Opening ∷ LeftOver ∷ Edition ∷ Goal ∷ Jobs ∷ Job ∷ []

-- at most 77 bytes, of which the first 79 decide
pub plan_message : Message plan message Valid (λ p. plan_format.Known (view p)) Fits judge cleared 77 79 plan_refusals
plan_message = laws tied 79 (omega arith) (omega arith)
