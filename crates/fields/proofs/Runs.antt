-- What is listed of a run up to its first refusal: of any such list, of things in order, and of a run that was found.
-- Assumes nothing.
use Prim.Native.Nat.{ℕ, zero, suc, ◌≤◌}
use mathlib.Core.Path.{◌≡◌, refl, sym, ◌∙◌}
use mathlib.Core.List.{List, [], ◌∷◌}
use native.Mathlib.Omega.{arith}
use lib.ListN.{length}
use Rattle.refusal.specs.declared.Reason.{Reason}
use Rattle.number.specs.Readers.{Found, found, refused, Reader, and_then, times}
use Rattle.number.proofs.Steps.{went_on, found_value}
use Rattle.fields.specs.Orders.{in_order, in_order_before, read_before, thereafter}
use Rattle.fields.proofs.Orders.{kept, times_in_order}

-- `before n state i` lists n things from position i on; `cut i` is what a refused one adds to the list
pub record Listing {S A : Type 0} (one : S → Reader A) (step : S → A → S) (s : List ℕ) (cut : ℕ → List A) (before : ℕ → S → ℕ → List A) : Type 0 where
  pub none : (state : S) (i : ℕ) → before zero state i ≡ []
  pub more : (n : ℕ) (state : S) (i : ℕ) (a : A) (j : ℕ) → one state s i ≡ found a j → before (suc n) state i ≡ a ∷ before n (step state a) j
  pub stop : (n : ℕ) (state : S) (i : ℕ) (r : Reason) → one state s i ≡ refused r → before (suc n) state i ≡ cut i

module _ {S A : Type 0} {one : S → Reader A} {step : S → A → S} {s : List ℕ} {cut : ℕ → List A} {before : ℕ → S → ℕ → List A}
    (l : Listing one step s cut before) where
  -- of a run that was found, all of it
  pub all_listed : (n : ℕ) (state : S) (i : ℕ) (xs : List A) (j : ℕ) → in_order one step n state s i ≡ found xs j → before n state i ≡ xs
  unfolding in_order
  all_listed zero state i xs j e = l.none state i ∙ found_value [] xs i j e
  all_listed (suc n) state i xs j e =
      let (a, k, f, p) = went_on (one state s i) (λ a k. and_then (in_order one step n (step state a) s k) (λ more m. found (a ∷ more) m)) xs j e in
      let (more, m, g, q) = went_on (in_order one step n (step state a) s k) (λ more m. found (a ∷ more) m) xs j p in
      l.more n state i a k f ∙ rw (all_listed n (step state a) k more m g) (found_value (a ∷ more) xs m j q)

-- a refused thing adds nothing
pub in_order_lem : {S A : Type 0} (one : S → Reader A) (step : S → A → S) (s : List ℕ)
    → Listing one step s (λ i. []) (λ n state i. in_order_before one step n state s i)
unfolding in_order_before
in_order_lem one step s = record { none = λ state i. refl; more = λ n state i a j e. rw e; stop = λ n state i r e. rw e }

-- of things each read by themselves, all that were found
pub before_found : {A : Type 0} (one : Reader A) (s : List ℕ) (n i : ℕ) (xs : List A) (j : ℕ) → times n one s i ≡ found xs j
    → read_before n one s i ≡ xs
before_found one s n i xs j e = all_listed (in_order_lem (λ _. one) kept s) n tt i xs j (sym (times_in_order one n s i) ∙ e)

-- .. and no more than the run has
pub few_before : {S A : Type 0} (one : S → Reader A) (step : S → A → S) (n : ℕ) (state : S) (s : List ℕ) (i : ℕ) → length (in_order_before one step n state s i) ≤ n
unfolding in_order_before
few_before one step zero state s i = omega arith
few_before {S} {A} one step (suc n) state s i = go (one state s i) (λ a j. few_before one step n (step state a) s j)
  where
    go : (f : Found A) → ((a : A) (j : ℕ) → length (in_order_before one step n (step state a) s j) ≤ n)
        → length (thereafter f (λ a j. a ∷ in_order_before one step n (step state a) s j)) ≤ suc n
    go (found a j) few = omega (arith, few a j)
    go (refused r) few = omega arith

pub before_few : {A : Type 0} (n : ℕ) (one : Reader A) (s : List ℕ) (i : ℕ) → length (read_before n one s i) ≤ n
before_few n one s i = few_before (λ _. one) (λ _ _. tt) n tt s i
