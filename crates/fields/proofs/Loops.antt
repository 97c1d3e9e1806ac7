-- A loop that reads one thing after the other and stores each: how it ends, and what it has stored, refused or not.
-- Assumes nothing.
use Prim.Native.Nat.{ℕ, suc, ◌+◌, ◌-◌, ◌<◌, ◌≤◌}
use mathlib.Core.Path.{◌≡◌, refl, sym, ap, ◌∙◌}
use mathlib.Core.List.{List, [], ◌∷◌, ◌++◌}
use native.Mathlib.Omega.{arith}
use native.Mathlib.Numerals.{add-one}
use lib.ListN.{length, take, drop, set, length-set}
use lib.Seq.{sets, length-take-le}
use Rattle.refusal.specs.declared.Reason.{Reason}
use Rattle.number.specs.Readers.{Found, found, refused, Reader, times, behind}
use Rattle.number.proofs.Steps.{found_next, not_found, not_refused}
use Rattle.fields.specs.Orders.{in_order, read_before}
use Rattle.fields.proofs.Orders.{outcome_more, kept, times_in_order}
use Rattle.fields.proofs.Runs.{Listing, in_order_lem, before_found, before_few}
use Rattle.fields.proofs.Parts.{sets_front}

-- before thing k, at position i: `whole` is what the run finds, `left` what it leaves, `state` what the things before k left,
-- and `store st k xs` is st with the things xs stored from number k on
pub record Looping {S A T : Type 0} {one : S → Reader A} {step : S → A → S} {s : List ℕ} {cut : ℕ → List A} {before : ℕ → S → ℕ → List A}
    (l : Listing one step s cut before) (store : T → ℕ → List A → T) (count : ℕ) (whole : Found (List A)) (left : T)
    (state : S) (st : T) (i k : ℕ) : Type 0 where
  pub ends : behind whole ≡ behind (in_order one step (count - k) state s i)
  pub means : left ≡ store st k (before (count - k) state i)

module _ {S A T : Type 0} {one : S → Reader A} {step : S → A → S} {s : List ℕ} {cut : ℕ → List A} {before : ℕ → S → ℕ → List A}
    {l : Listing one step s cut before} {store : T → ℕ → List A → T} {count : ℕ} {whole : Found (List A)} {left : T} where
  pub loop_none : {state : S} {st : T} {at : ℕ} → whole ≡ in_order one step count state s at → left ≡ store st 0 (before count state at)
      → Looping l store count whole left state st at 0
  loop_none e f = let d : count - 0 ≡ count = omega arith in record { ends = rw d (ap behind e); means = rw d f }

  module _ {state : S} {st : T} {i k : ℕ} (w : Looping l store count whole left state st i k) where
    module _ (h : k < count) where
      again : count - k ≡ suc (count - suc k)
      again = omega arith

      pub loop_more : (a : A) (next : ℕ) (st' : T) → one state s i ≡ found a next → ((rest : List A) → store st k (a ∷ rest) ≡ store st' (suc k) rest)
          → Looping l store count whole left (step state a) st' next (k + 1)
      unfolding in_order
      loop_more a next st' e put =
          let rest = before (count - suc k) (step state a) next in
          rw (add-one k) (record {
            ends = w.ends ∙ rw (again, e) (outcome_more (in_order one step (count - suc k) (step state a) s next) (λ more. a ∷ more));
            means = w.means ∙ rw (again, l.more (count - suc k) state i a next e) (put rest);
          })

      pub loop_stop : (r : Reason) → one state s i ≡ refused r → (refused r ≡ behind whole) × (store st k (cut i) ≡ left)
      unfolding in_order
      loop_stop r e = (sym (w.ends ∙ rw (again, e)), sym (w.means ∙ rw (again, l.stop (count - suc k) state i r e)))

    pub loop_done : count ≤ k → (found tt i ≡ behind whole) × (store st k [] ≡ left)
    unfolding in_order
    loop_done h = let z : count - k ≡ 0 = omega arith in (sym (w.ends ∙ rw z), sym (w.means ∙ rw (z, l.none state i)))

-- what was found behind a run is what it found
pub behind_found : {A : Type 0} (f : Found A) (n : ℕ) → behind f ≡ found tt n → (a : A) × (f ≡ found a n)
behind_found (found a m) n e = (a, ap (found a) (found_next tt tt m n e))
behind_found (refused r) n e = not_found r tt n e

pub behind_refused : {A : Type 0} (f : Found A) (r : Reason) → behind f ≡ refused r → f ≡ refused r
behind_refused (found a n) r e = not_refused r tt n e
behind_refused (refused q) r e = cc

-- numbers that are stored one after the other, each as the array holds it
pub record Running {T : Type 0} (held : List ℕ → List T) (one : Reader ℕ) (s : List ℕ) (at : ℕ) (out₀ out : List T) (i k : ℕ) : Type 0 where
  pub long : length out ≡ length out₀
  pub loop : Looping (in_order_lem (λ _. one) kept s) (λ out k ns. sets out k (held ns)) (length out₀) (times (length out₀) one s at)
      (sets out₀ 0 (held (read_before (length out₀) one s at))) tt out i k

module _ {T : Type 0} {held : List ℕ → List T} {one : Reader ℕ} {s : List ℕ} {at : ℕ} {out₀ : List T} where
  pub run_none : Running held one s at out₀ out₀ at 0
  run_none = record { long = refl; loop = loop_none (times_in_order one (length out₀) s at) refl }

  module _ {out : List T} {i k : ℕ} (w : Running held one s at out₀ out i k) where
    pub run_more : ((n : ℕ) (ns : List ℕ) → held (n ∷ ns) ≡ held (n ∷ []) ++ held ns) → (v next : ℕ) (x : T) → k < length out₀ → one s i ≡ found v next
        → x ∷ [] ≡ held (v ∷ []) → Running held one s at out₀ (set out k x) next (k + 1)
    run_more more v next x h e is =
        let put : (rest : List ℕ) → sets out k (held (v ∷ rest)) ≡ sets (set out k x) (suc k) (held rest) = λ rest. rw (more v rest, ← is) in
        record { long = simp length-set w.long; loop = loop_more w.loop h v next (set out k x) e put }

    module _ (none : held [] ≡ []) where
      pub run_stop : k < length out₀ → (r : Reason) → one s i ≡ refused r
          → (behind (times (length out₀) one s at) ≡ refused r) × (out ≡ sets out₀ 0 (held (read_before (length out₀) one s at)))
      run_stop h r e = let (ends, left) = loop_stop w.loop h r e in (sym ends, rw none at left)

      pub run_done : length out₀ ≤ k
          → (behind (times (length out₀) one s at) ≡ found tt i) × (out ≡ sets out₀ 0 (held (read_before (length out₀) one s at)))
      run_done h = let (ends, left) = loop_done w.loop h in (sym ends, rw none at left)

-- a run for the first n places of an array: what it found, and the array with it
module _ {T : Type 0} (n : ℕ) (l : List T) (room : n ≤ length l) where
  pub front_found : {A : Type 0} (run : ℕ → Found A) (j : ℕ) → behind (run (length (take n l))) ≡ found tt j → (a : A) × (run n ≡ found a j)
  front_found run j e = behind_found (run n) j (rw (← length-take-le n l room) e)

  pub front_stored : (before : ℕ → List T) → length (before n) ≤ n → (out : List T) → out ≡ sets (take n l) 0 (before (length (take n l)))
      → (xs : List T) → before n ≡ xs → out ++ drop n l ≡ sets l 0 xs
  front_stored before few out e xs f = rw (e, length-take-le n l room) (sets_front n (before n) l few room) ∙ ap (sets l 0) f

-- .. of numbers that are held as they are
pub numbers_stored : (n : ℕ) (l out : List ℕ) → n ≤ length l → (one : Reader ℕ) (s : List ℕ) (i : ℕ) → out ≡ sets (take n l) 0 (read_before (length (take n l)) one s i)
    → (ns : List ℕ) (j : ℕ) → times n one s i ≡ found ns j → out ++ drop n l ≡ sets l 0 ns
numbers_stored n l out room one s i e ns j f =
    front_stored n l room (λ k. read_before k one s i) (before_few n one s i) out e ns (before_found one s n i ns j f)
