-- The bytes of a split plan say all of it: plans with the same message are the same up to their counts.
-- Assumes nothing.
use Prim.Native.Nat.{ℕ, ◌≤◌}
use mathlib.Core.Path.{◌≡◌, refl, sym, ap, ap₂, ◌∙◌}
use mathlib.Core.Logic.{◌↔◌}
use mathlib.Core.List.{List, [], ◌∷◌, ◌++◌, append_assoc}
use lib.ListN.{length}
use Rattle.number.specs.Numbers.{encode}
use Rattle.fields.specs.Fields.{encode_all}
use Rattle.fields.proofs.Prefixes.{rest_same, number_first, numbers_first}
use Rattle.split_plan.specs.declared.Cutter.{Cutter}
use Rattle.split_plan.specs.declared.SplitPlan.{SplitPlan}
use Rattle.split_plan.specs.Record.{job_list, cutter_of, split_of, SameJobs, Same}
use Rattle.split_plan.specs.Writing.{cutter_bytes, message}
use Rattle.split_plan.proofs.Cutters.{job_list_length, held, same_lists}

-- bytes that begin with the count and jobs of a cutter begin with those of no other
cutter_first : (c d : Cutter) (s t : List ℕ) → cutter_bytes c ++ s ≡ cutter_bytes d ++ t → SameJobs c d × (s ≡ t)
cutter_first c d s t e =
    let (count, more) = number_first c.jobs d.jobs (encode_all (job_list c) ++ s) (encode_all (job_list d) ++ t)
    (sym (append_assoc (encode c.jobs) (encode_all (job_list c)) s) ∙ e ∙ append_assoc (encode d.jobs) (encode_all (job_list d)) t) in
    let (jobs, end) = numbers_first (job_list c) (job_list d) (job_list_length c ∙ count ∙ sym (job_list_length d)) s t more in
    ((same_lists c d).0 jobs, end)

cutter_same : (c d : Cutter) → SameJobs c d → cutter_bytes c ≡ cutter_bytes d
cutter_same c d s = ap₂ ◌++◌ (ap encode s.jobs) (ap encode_all ((same_lists c d).1 s))

abbrev opened : List ℕ
opened = (0x51 ∷ 0x32 ∷ []) ++ encode 1

grouped : (o g c f s : List ℕ) → o ++ g ++ c ++ f ++ s ≡ o ++ (g ++ (c ++ (f ++ s)))
grouped o g c f s = simp append_assoc

-- the same message exactly for the same plan
pub message_tells : (p q : SplitPlan) → (message p ≡ message q) ↔ Same p q
unfolding message
message_tells p q = (
  λ e.
      let all = rest_same opened _ _ (sym (parts p) ∙ e ∙ parts q) in
      let (goal, more) = number_first p.goal q.goal _ _ all in
      let (cost, cutters) = number_first p.cost q.cost _ _ more in
      let (first, last) = cutter_first p.first q.first _ _ cutters in
      let (second, end) = cutter_first p.second q.second [] [] (ap (λ (l : List ℕ). l ++ []) last) in
      record { goal = goal; cost = cost; first = first; second = second },
  λ s. rw (s.goal, s.cost, cutter_same p.first q.first s.first, cutter_same p.second q.second s.second),
)
  where
    parts : (r : SplitPlan) → message r ≡ opened ++ (encode r.goal ++ (encode r.cost ++ (cutter_bytes r.first ++ cutter_bytes r.second)))
    parts r = grouped opened (encode r.goal) (encode r.cost) (cutter_bytes r.first) (cutter_bytes r.second)

-- the message of a record by the jobs that its cutters have
pub by_jobs : (p : SplitPlan) (o₁ o₂ : List ℕ) → length o₁ ≤ 60 → length o₂ ≤ 60 → job_list p.first ≡ o₁ → job_list p.second ≡ o₂
    → message p ≡ message (split_of p.goal p.cost o₁ o₂)
by_jobs p o₁ o₂ few₁ few₂ e₁ e₂ = (message_tells p (split_of p.goal p.cost o₁ o₂)).1 (record {
  goal = refl;
  cost = refl;
  first = (same_lists p.first (cutter_of o₁)).0 (e₁ ∙ sym (held o₁ few₁));
  second = (same_lists p.second (cutter_of o₂)).0 (e₂ ∙ sym (held o₂ few₂));
})
