-- What each kind as the next comes to, and what is read for it; and where no next state has a value.
-- Assumes nothing.
use Prim.Native.Nat.{ℕ, zero, suc, ◌+◌, ◌-◌, ◌^◌, ◌≤◌, ◌<◌}
use mathlib.Core.Bool.{Bool, true, false, false≢true}
use mathlib.Core.Logic.{◌≢◌}
use mathlib.Core.List.{List}
use mathlib.Core.Option.{Option, none}
use mathlib.Core.Path.{◌≡◌, refl, sym, ap, ◌∙◌}
use native.Mathlib.Omega.{arith}
use lib.Dec.{ltb, eqb}
use lib.ListN.{length, get_or, set, replicate, length-set}
use lib.Seq.{get_or-set_same, get_or-set_other, ext_get_or}
use Rattle.std.proofs.lemmas.List.{get_or-replicate}
use Rattle.std.proofs.lemmas.List.Sums.{AllPass-from_list_all, list_all-from_AllPass}
use Rattle.std.proofs.lemmas.List.Elements.{All-get_or, All-from_get_or}
use borrow.Author.Count.{below_more}
use borrow.Author.Tests.{lt-ltb}
use Rattle.units.specs.declared.Seconds.{Seconds}
use Rattle.gaps.specs.declared.Gap.TheVariants.{Lasting, Never}
use Rattle.gaps.specs.Gaps.{gap_index, gap_at, gap_between, has_never}
use Rattle.gaps.proofs.Gaps.{never_is}
use Rattle.gaps.proofs.Nevers.{none_never}
use Rattle.sequencing.specs.Lists.{at}
use Rattle.sequencing.specs.Problem.{Problem}
use Rattle.sequencing.specs.States.{complete}
use Rattle.sequencing.specs.Least.{only, plus_gap, least}
use Rattle.sequencing.specs.Entries.{stored, number}
use Rattle.sequencing.proofs.Options.{plus_gap_none}
use Rattle.next_states.specs.NextStates.{loaded, next_value, per_kind, next_values, none_of, candidate, Counted, Ready}
use Rattle.next_states.proofs.Stored.{Fits, fits, loaded_none, stored_loaded, least_past}

-- ---- from a row

module _ {next gaps : List ℕ} {row w : ℕ} (r : Ready next gaps row w) where
  pub candidate_fits : (x : ℕ) → 1 ≤ x → x ≤ 5 → Fits (candidate next gaps row w x)
  candidate_fits x l u = fits (candidate next gaps row w x) (r.counted x l u).small

  -- where kind x has a gap of s seconds, its step can be counted
  pub counted_at : (x : ℕ) → 1 ≤ x → x ≤ 5 → {s : Seconds} → gap_between gaps row x ≡ Lasting s → Counted (loaded (get_or next (x - 1) 0)) (Lasting s) w
  counted_at zero l u e = absurd (omega arith)
  counted_at (suc x) l u e = let d : suc x - 1 ≡ x = omega arith in rw d (rw e at (r.counted (suc x) l u))

-- ---- values by kind

-- the first x kinds have theirs
pub record Loading (v : ℕ → Option ℕ) (next : List ℕ) (x : ℕ) : Type 0 where
  pub long : length next ≡ 5
  pub done : (k : ℕ) → k < x → get_or next k 0 ≡ stored (v (suc k))
  pub rest : (k : ℕ) → x ≤ k → k < 5 → get_or next k 0 ≡ 2 ^ 64 - 1

module _ (v : ℕ → Option ℕ) where
  at_kind : (x : ℕ) → 1 ≤ x → x ≤ 5 → at (per_kind v) x ≡ stored (v x)
  unfolding per_kind
  at_kind zero l u = absurd (omega arith)
  at_kind (suc zero) l u = refl
  at_kind (suc (suc zero)) l u = refl
  at_kind (suc (suc (suc zero))) l u = refl
  at_kind (suc (suc (suc (suc zero)))) l u = refl
  at_kind (suc (suc (suc (suc (suc zero))))) l u = refl
  at_kind (suc (suc (suc (suc (suc (suc x)))))) l u = absurd (omega arith)

  length_kinds : length (per_kind v) ≡ 5
  unfolding per_kind
  length_kinds = refl

  pub loading_start : Loading v (replicate 5 (2 ^ 64 - 1)) 0
  loading_start = record { long = refl; done = λ k h. absurd (omega arith); rest = λ k l u. get_or-replicate 5 k (2 ^ 64 - 1) 0 u }

  module _ {next : List ℕ} {x : ℕ} (w : Loading v next x) where
    -- that of kind x, from 0
    pub loading_more : x < 5 → {value : ℕ} → value ≡ stored (v (suc x)) → Loading v (set next x value) (x + 1)
    loading_more h {value} e =
        record {
          long = length-set next x value ∙ w.long;
          done =
              below_more (λ (k : ℕ). get_or (set next x value) k 0 ≡ stored (v (suc k))) x
              (λ k l. get_or-set_other next x k value 0 (λ q. omega arith) ∙ w.done k l)
              (get_or-set_same next x value 0 (omega (arith, w.long)) ∙ e);
          rest = λ k l u. get_or-set_other next x k value 0 (λ q. omega arith) ∙ w.rest k (omega arith) u;
        }

    -- it has none
    pub loading_none : x < 5 → v (suc x) ≡ none → Loading v next (x + 1)
    loading_none h e =
        record {
          long = w.long;
          done = below_more (λ (k : ℕ). get_or next k 0 ≡ stored (v (suc k))) x w.done (w.rest x (omega arith) h ∙ rw e);
          rest = λ k l u. w.rest k (omega arith) u;
        }

    pub loading_done : 5 ≤ x → next ≡ per_kind v
    loading_done h =
        ext_get_or 0 next (per_kind v) (w.long ∙ sym length_kinds)
        (λ k l. w.done k (omega (arith, w.long)) ∙ sym (at_kind (suc k) (omega arith) (omega (arith, w.long))))

-- ---- the next states' entries

loaded_only : (b : Bool) (v : ℕ) → loaded (stored (only b (loaded v))) ≡ only b (loaded v)
loaded_only true v = ap loaded (stored_loaded v)
loaded_only false v = refl

module _ (P : Problem) (table k : List ℕ) where
  pub loaded_next : (x : ℕ) → 1 ≤ x → x ≤ 5 → loaded (at (next_values P table k) x) ≡ next_value P table k x
  loaded_next x l u = ap loaded (at_kind (next_value P table k) x l u) ∙ loaded_only (ltb 0 (at k x)) (get_or table (number P x (complete k x)) 0)

  -- what is read where a job of x is left
  pub read_next : (x : ℕ) → 0 < at k x → {e : ℕ} → e ≡ number P x (complete k x) → get_or table e 0 ≡ stored (next_value P table k x)
  read_next x left h = rw (h, lt-ltb 0 (at k x) left) (sym (stored_loaded (get_or table (number P x (complete k x)) 0)))

  -- where none is left
  pub no_next : (x : ℕ) → at k x ≡ 0 → next_value P table k x ≡ none
  no_next x e = rw e

  pub length_next : length (next_values P table k) ≡ 5
  length_next = length_kinds (next_value P table k)

-- ---- those that may follow a row

-- where no gap is never, any may
pub may_follow : (gaps : List ℕ) (row x : ℕ) → has_never gaps ≡ false → gap_between gaps row x ≢ Never
may_follow gaps row x e n = none_never gaps (gap_index row x) e ((never_is (gap_at gaps row x)).0 n)

-- ---- where none has a value

-- no entry has one
all_none : (next : List ℕ) → none_of next ≡ true → (x : ℕ) → 1 ≤ x → x ≤ length next → loaded (at next x) ≡ none
all_none next e zero l u = absurd (omega arith)
all_none next e (suc x) l u =
    rw (All-get_or (λ (v : ℕ). eqb v (2 ^ 64 - 1) ≡ true) next x 0 (omega arith) (AllPass-from_list_all (λ v. eqb v (2 ^ 64 - 1)) next e))

-- so nothing follows, from any row
pub none_least : (next gaps : List ℕ) (row w : ℕ) → length next ≡ 5 → none_of next ≡ true → least (candidate next gaps row w) 5 ≡ none
unfolding least
none_least next gaps row w l e =
    least_past (candidate next gaps row w) 0 5
    (λ x low high. ap (plus_gap w (gap_between gaps row x)) (all_none next e x (omega arith) (omega arith)) ∙ plus_gap_none w (gap_between gaps row x))

-- else some entry has
pub none_of_lem : (next : List ℕ) → none_of next ≡ false → ((x : ℕ) → 1 ≤ x → x ≤ length next → loaded (at next x) ≡ none) → ⊥
none_of_lem next e h =
    let each : (i : ℕ) → i < length next → eqb (get_or next i 0) (2 ^ 64 - 1) ≡ true =
    λ i u. loaded_none (get_or next i 0) (h (suc i) (omega arith) (omega arith)) in
    false≢true (sym e ∙ list_all-from_AllPass (λ v. eqb v (2 ^ 64 - 1)) next (All-from_get_or (λ (v : ℕ). eqb v (2 ^ 64 - 1) ≡ true) next 0 each))

-- where no kind past x has one, nothing is found for them from any row
pub none_past : (next gaps : List ℕ) (row w x : ℕ) → ((y : ℕ) → x < y → y ≤ 5 → loaded (at next y) ≡ none)
    → (y : ℕ) → x < y → y ≤ 5 → candidate next gaps row w y ≡ none
none_past next gaps row w x past y l u = ap (plus_gap w (gap_between gaps row y)) (past y l u) ∙ plus_gap_none w (gap_between gaps row y)
