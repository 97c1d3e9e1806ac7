-- When bytes begin with an opening.
-- Assumes nothing.
use Prim.Native.Nat.{ℕ, ◌≤◌}
use mathlib.Core.Path.{◌≡◌, refl}
use mathlib.Core.Bool.{Bool, true, false, ◌&&◌, false≢true}
use mathlib.Core.List.{List, [], ◌∷◌, ◌++◌}
use native.Mathlib.Omega.{arith}
use lib.Dec.{ltb, eqb}
use lib.ListN.{length, get_or, drop}
use borrow.Author.Tests.{lt-ltb, eq-eqb, eqb-true}
use Rattle.std.specs.List.{starts_with}
use Rattle.fields.specs.Messages.{opens}
use Rattle.fields.proofs.Judged.{and_true}

pub opens_both : (a b : ℕ) (s : List ℕ) → 2 ≤ length s → get_or s 0 0 ≡ a → get_or s 1 0 ≡ b → true ≡ opens a b s
unfolding opens
opens_both a b s l e f = rw (lt-ltb 1 (length s) l, eq-eqb (get_or s 0 0) a e, eq-eqb (get_or s 1 0) b f)

-- the library's test of a beginning
pub opens_starts : (s two : List ℕ) → length two ≡ 2 → starts_with eqb s two ≡ opens (get_or two 0 0) (get_or two 1 0) s
unfolding opens
opens_starts s [] h = absurd (omega arith)
opens_starts s (a ∷ []) h = absurd (omega arith)
opens_starts [] (a ∷ b ∷ []) h = refl
opens_starts (x ∷ []) (a ∷ b ∷ []) h = none (eqb a x)
  where
    none : (t : Bool) → t && false ≡ false
    none true = refl
    none false = refl
opens_starts (x ∷ y ∷ s) (a ∷ b ∷ []) h = rw (lt-ltb 1 (length (x ∷ y ∷ s)) (omega arith), eqb_swap a x, eqb_swap b y) (both (eqb x a) (eqb y b))
  where
    eqb_swap : (v w : ℕ) → eqb v w ≡ eqb w v
    eqb_swap v w = grind arith

    both : (t u : Bool) → t && (u && true) ≡ t && u
    both true true = refl
    both true false = refl
    both false u = refl
opens_starts s (a ∷ b ∷ c ∷ two) h = absurd (omega arith)

-- bytes that open so are the opening and what follows it
pub opens_bytes : (a b : ℕ) (s : List ℕ) → opens a b s ≡ true → s ≡ (a ∷ b ∷ []) ++ drop 2 s
unfolding opens
opens_bytes a b [] e = absurd (false≢true e)
opens_bytes a b (x ∷ []) e = absurd (false≢true e)
opens_bytes a b (x ∷ y ∷ s) e =
    let (p, q) = and_true (ltb 1 (length (x ∷ y ∷ s)) && eqb x a) (eqb y b) e in
    rw (eqb-true x a (and_true (ltb 1 (length (x ∷ y ∷ s))) (eqb x a) p).1, eqb-true y b q)
