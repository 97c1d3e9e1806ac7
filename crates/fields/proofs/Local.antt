-- Where a reader looks: which bytes decide what is found.
-- Assumes nothing.
use Prim.Native.Nat.{ℕ, zero, suc, min, ◌+◌, ◌-◌, ◌<◌, ◌≤◌}
use mathlib.Core.Path.{◌≡◌, refl, sym, ap, ap₂, ◌∙◌}
use mathlib.Core.Bool.{Bool, true, false, cond, ◌&&◌}
use mathlib.Core.Logic.{◌⊎◌, inl, inr}
use mathlib.Core.List.{List, [], ◌∷◌}
use native.Mathlib.Omega.{arith}
use lib.Dec.{ltb, eqb}
use lib.ListN.{length, take, drop, length-take}
use lib.Seq.{take-take, get_or-take}
use borrow.Author.Tests.{lt-ltb, le-ltb, ne_eqb}
use Rattle.number.specs.Readers.{Found, found, refused, and_then}
use Rattle.number.specs.Numbers.{above, last, groups_at, number}
use Rattle.number.proofs.Steps.{below_or_not}
use Rattle.fields.specs.Messages.{opens}

-- steps that find the same go on the same
pub and_same : {A B : Type 0} (f g : Found A) (next next' : A → ℕ → Found B) → f ≡ g → ((a : A) (n : ℕ) → g ≡ found a n → next a n ≡ next' a n)
    → and_then f next ≡ and_then g next'
and_same f (found a n) next next' e h = rw e (h a n refl)
and_same f (refused r) next next' e h = rw e

-- ---- numbers

groups_front : (first : Bool) (g p : ℕ) (s : List ℕ) → groups_at first g p (take g s) ≡ groups_at first g p s
unfolding groups_at
groups_front first zero p s = refl
groups_front first (suc g) p [] = refl
groups_front first (suc g) p (b ∷ s) =
    ap (λ (f : Found ℕ). cond (ltb b 128) (last first b (p + 1)) (above (b - 128) f)) (groups_front false g (p + 1) s)

drop_front : (n m : ℕ) (l : List ℕ) → drop n (take m l) ≡ take (m - n) (drop n l)
drop_front zero m l = let e : m - 0 ≡ m = omega arith in rw e
drop_front (suc n) zero l = let e : 0 - suc n ≡ 0 = omega arith in rw e
drop_front (suc n) (suc m) [] = none (suc m - suc n)
  where
    none : (k : ℕ) → ◌≡◌ {A = List ℕ} [] (take k [])
    none zero = refl
    none (suc k) = refl
drop_front (suc n) (suc m) (x ∷ l) = let e : suc m - suc n ≡ m - n = omega arith in rw e (drop_front n m l)

pub number_same : (g : ℕ) (s : List ℕ) (at m : ℕ) → at + g ≤ m → number g (take m s) at ≡ number g s at
number_same g s at m h =
    sym (groups_front true g at (drop at (take m s)))
    ∙ ap (groups_at true g at) (ap (take g) (drop_front at m s) ∙ take-take g (m - at) (drop at s) (omega arith))
    ∙ groups_front true g at (drop at s)

-- ---- the two ends of a message

-- the first two bytes are the opening's, or not
pub opens_same : (a b : ℕ) (s : List ℕ) (m : ℕ) → 2 ≤ m → opens a b (take m s) ≡ opens a b s
unfolding opens
opens_same a b s m h =
    ap₂ ◌&&◌ (ap₂ ◌&&◌ (longer (below_or_not 1 (length s))) (ap (λ (v : ℕ). eqb v a) (get_or-take m s 0 0 (omega arith)))) (ap (λ (v : ℕ). eqb v b) (get_or-take m s 1 0 (omega arith)))
  where
    longer : (1 < length s) ⊎ (length s ≤ 1) → ltb 1 (length (take m s)) ≡ ltb 1 (length s)
    longer (inl l) = lt-ltb 1 (length (take m s)) (omega (arith, length-take m s)) ∙ sym (lt-ltb 1 (length s) l)
    longer (inr l) = le-ltb 1 (length (take m s)) (omega (arith, length-take m s)) ∙ sym (le-ltb 1 (length s) l)

-- a position within the first m bytes is the end of both or of neither
pub end_same : (s : List ℕ) (b m : ℕ) → b < m → eqb b (length (take m s)) ≡ eqb b (length s)
end_same s b m h = elim (below_or_not m (length s)) [
  | inl l ↦ rw (length-take m s) (ne_eqb b (min m (length s)) (λ e. omega arith) ∙ sym (ne_eqb b (length s) (λ e. omega arith)))
  | inr l ↦ ap (eqb b) (length-take m s ∙ omega arith)
]
