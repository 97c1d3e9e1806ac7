-- The jobs of a kind, by hand-in: found one after the other, and those of a queue.
-- Assumes nothing.
use Prim.Native.Nat.{ℕ, zero, suc, ◌+◌, ◌-◌, ◌<◌, ◌≤◌}
use mathlib.Core.Bool.{Bool, cond}
use mathlib.Core.List.{List, [], ◌∷◌, ◌++◌, append-nil}
use mathlib.Core.Logic.{inl, inr}
use mathlib.Core.Path.{◌≡◌, refl, sym, ap, ap₂, ◌∙◌}
use native.Mathlib.Nat.{eq-zero-or-pos}
use native.Mathlib.Omega.{arith}
use borrow.Author.Tests.{eq-eqb, ne_eqb}
use lib.Dec.{eqb}
use lib.ListN.{length, get_or, set, take, length-append}
use lib.Seq.{sets, length-take-le}
use Rattle.queue.specs.declared.Queue.{Queue}
use Rattle.queue.specs.Record.{Valid}
use Rattle.sequencing.specs.Lists.{at, from, upto, filter}
use Rattle.sequencing.specs.Problem.{T, kind}
use Rattle.sequencing.specs.States.{jobs_of}
use Rattle.sequencing.proofs.Vectors.{at_minus, at_take, at_in}
use Rattle.problem.specs.OfQueue.{problem}
use Rattle.problem.proofs.Rule.{jobs_is, kind_is}
use Rattle.layout.specs.Steps.{of_kind}
use Rattle.layout.proofs.Storing.{from_parts, upto_more, filter_append, sets_more}

-- ---- the loop

-- those of a kind among the first i jobs
pub own : (kinds : List ℕ) (kind i : ℕ) → List ℕ
own kinds kind i = filter (λ j. eqb kind (at kinds j)) (upto i)

module _ (kinds : List ℕ) (kind i : ℕ) where
  own_more : own kinds kind (i + 1) ≡ own kinds kind i ++ cond (eqb kind (get_or kinds i 0)) ((i + 1) ∷ []) []
  unfolding own filter
  own_more =
      let e : i + 1 ≡ suc i = omega arith in
      ap (filter (λ j. eqb kind (at kinds j))) (upto_more i) ∙ filter_append (λ j. eqb kind (at kinds j)) (upto i) ((i + 1) ∷ []) ∙ rw e

  own_other : (get_or kinds i 0 ≡ kind → ⊥) → own kinds kind (i + 1) ≡ own kinds kind i
  own_other d = own_more ∙ rw (ne_eqb kind (get_or kinds i 0) (λ e. d (sym e))) (append-nil (own kinds kind i))

  own_same : get_or kinds i 0 ≡ kind → own kinds kind (i + 1) ≡ own kinds kind i ++ ((i + 1) ∷ [])
  own_same e = own_more ∙ rw (eq-eqb kind (get_or kinds i 0) (sym e))

  -- there are no fewer among all
  pub own_room : get_or kinds i 0 ≡ kind → i < length kinds → length (own kinds kind i) < length (of_kind kinds kind)
  unfolding own of_kind
  own_room same h =
      let n : ℕ = length kinds in
      let e : i + 1 + (n - (i + 1)) ≡ n = omega arith in
      let p : ℕ → Bool = λ j. eqb kind (at kinds j) in
      let later : List ℕ = from (1 + (i + 1)) (n - (i + 1)) in
      let all : filter p (upto n) ≡ filter p (upto (i + 1)) ++ filter p later =
      ap (λ m. filter p (upto m)) (sym e) ∙ ap (filter p) (from_parts 1 (i + 1) (n - (i + 1))) ∙ filter_append p (upto (i + 1)) later in
      omega (arith, simp length-append at (ap length all), simp length-append at (ap length (own_same same)))

-- they are listed from the front on
pub record Listing (kinds : List ℕ) (kind : ℕ) (jobs₀ jobs : List ℕ) (listed i : ℕ) : Type 0 where
  pub many : listed ≡ length (own kinds kind i)
  pub jobs_are : jobs ≡ sets jobs₀ 0 (own kinds kind i)

pub listing_none : {kinds : List ℕ} {kind : ℕ} {jobs₀ : List ℕ} → Listing kinds kind jobs₀ jobs₀ 0 0
unfolding own from filter
listing_none = record { many = refl; jobs_are = refl }

module _ {kinds : List ℕ} {kind : ℕ} {jobs₀ jobs : List ℕ} {listed i : ℕ} (w : Listing kinds kind jobs₀ jobs listed i) where
  pub listing_same : get_or kinds i 0 ≡ kind → Listing kinds kind jobs₀ (set jobs listed (i + 1)) (listed + 1) (i + 1)
  listing_same same = record {
    many = omega (arith, w.many, simp length-append at (ap length (own_same kinds kind i same)));
    jobs_are = rw (own_same kinds kind i same, w.jobs_are, w.many) (sets_more jobs₀ (own kinds kind i) (i + 1));
  }

  pub listing_other : (get_or kinds i 0 ≡ kind → ⊥) → Listing kinds kind jobs₀ jobs listed (i + 1)
  listing_other d = record { many = rw (own_other kinds kind i d) w.many; jobs_are = rw (own_other kinds kind i d) w.jobs_are }

  pub listing_done : i ≡ length kinds → (listed ≡ length (of_kind kinds kind)) × (jobs ≡ sets jobs₀ 0 (of_kind kinds kind))
  unfolding own of_kind
  listing_done e = (rw e at w.many, rw e at w.jobs_are)

-- ---- the jobs of a queue

-- tests that agree on s, s + 1, .. pass the same of them
filter_same : (p r : ℕ → Bool) (s n : ℕ) → ((x : ℕ) → s ≤ x → x < s + n → p x ≡ r x) → filter p (from s n) ≡ filter r (from s n)
unfolding filter from
filter_same p r s zero h = refl
filter_same p r s (suc n) h =
    ap₂ (λ t l. cond t (s ∷ l) l) (h s (omega arith) (omega arith)) (filter_same p r (suc s) n (λ x l u. h x (omega arith) (omega arith)))

module _ (q : Queue) (v : Valid q) where
  -- each of the T jobs has a kind
  long : length (take q.jobs q.job_kinds) ≡ q.jobs
  long = length-take-le q.jobs q.job_kinds (elim (eq-zero-or-pos q.jobs) [
    | inl e ↦ omega arith
    | inr h ↦ (at_in q.job_kinds q.jobs (omega (arith, at_minus q.job_kinds q.jobs h, v.kinds_of_jobs q.jobs h (omega arith)))).1
  ])

  pub jobs_of_lem : (j : ℕ) → of_kind (take q.jobs q.job_kinds) j ≡ jobs_of (problem q) j
  unfolding jobs_of of_kind
  jobs_of_lem j =
      ap (λ n. filter (λ i. eqb j (at (take q.jobs q.job_kinds) i)) (upto n)) (long ∙ sym (jobs_is q))
      ∙ filter_same (λ i. eqb j (at (take q.jobs q.job_kinds) i)) (λ i. eqb j (kind (problem q) i)) 1 (T (problem q))
      (λ i l u. ap (eqb j) (at_take q.jobs q.job_kinds i (omega (arith, jobs_is q)) ∙ at_minus q.job_kinds i l ∙ sym (kind_is q i l (omega arith))))
