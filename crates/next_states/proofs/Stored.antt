-- Values as the table holds them: 2^64 − 1 is none only where no cost is as large.
-- Assumes nothing.
use Prim.Native.Nat.{ℕ, zero, suc, ◌+◌, ◌-◌, ◌^◌, ◌<◌, ◌≤◌, min}
use mathlib.Core.Bool.{true, cond}
use mathlib.Core.Logic.{inl, inr, ◌≢◌}
use mathlib.Core.Option.{Option, none, some}
use mathlib.Core.Path.{◌≡◌, refl, sym, ◌∙◌}
use native.Mathlib.Nat.{add-zero}
use native.Mathlib.Omega.{arith}
use lib.Dec.{leb, ltb, eqb}
use borrow.Author.Tests.{lt-ltb, le-ltb, ne_eqb, eqb-true, leb-true, leb-false}
use Rattle.sequencing.specs.Least.{lower, reaches, least, arg_least}
use Rattle.std.proofs.lemmas.Bool.{cases_Bool}
use Rattle.sequencing.proofs.Options.{none_some}
use Rattle.sequencing.proofs.Least.{smallest}
use Rattle.sequencing.specs.Entries.{stored}
use Rattle.next_states.specs.NextStates.{loaded}

-- a value that the table can hold
abbrev pub Fits : Option ℕ → Type 0
Fits none = Unit {0}
Fits (some c) = c < 2 ^ 64 - 1

pub fits : (r : Option ℕ) → ((c : ℕ) → r ≡ some c → c < 2 ^ 64 - 1) → Fits r
fits none h = tt
fits (some c) h = h c refl

fits_some : (r : Option ℕ) (c : ℕ) → Fits r → r ≡ some c → c < 2 ^ 64 - 1
fits_some r c h e = rw e at h

pub fits_stored : (r : Option ℕ) → Fits r → stored r < 2 ^ 64
fits_stored none h = omega arith
fits_stored (some c) h = omega arith

pub loaded_some : (v : ℕ) → v ≢ 2 ^ 64 - 1 → loaded v ≡ some v
loaded_some v n = rw (ne_eqb v (2 ^ 64 - 1) n)

pub loaded_none : (v : ℕ) → loaded v ≡ none → eqb v (2 ^ 64 - 1) ≡ true
loaded_none v h = elim (cases_Bool (eqb v (2 ^ 64 - 1))) [ inl e ↦ e | inr f ↦ absurd (none_some v (sym h ∙ rw f)) ]

pub loaded_stored : (r : Option ℕ) → Fits r → loaded (stored r) ≡ r
loaded_stored none h = refl
loaded_stored (some c) h = loaded_some c (λ e. omega arith)

pub stored_loaded : (v : ℕ) → stored (loaded v) ≡ v
stored_loaded v = elim (cases_Bool (eqb v (2 ^ 64 - 1))) [ inl e ↦ rw e (sym (eqb-true v (2 ^ 64 - 1) e)) | inr e ↦ rw e ]

pub stored_lower : (a b : Option ℕ) → Fits a → Fits b → stored (lower a b) ≡ min (stored a) (stored b)
stored_lower none none h k = refl
stored_lower none (some b) h k = omega arith
stored_lower (some a) none h k = omega arith
stored_lower (some a) (some b) h k = refl

-- the stored values' order decides which of two is taken
pub stored_taken : (a b : Option ℕ) (kind arg x : ℕ) → Fits a → Fits b → ((c : ℕ) → a ≡ some c → kind ≡ arg)
    → (c : ℕ) → lower a b ≡ some c → cond (ltb (stored b) (stored a)) x kind ≡ cond (reaches a b) arg x
stored_taken none none kind arg x h k e c l = absurd (none_some c l)
stored_taken none (some b) kind arg x h k e c l = rw (lt-ltb b (2 ^ 64 - 1) k)
stored_taken (some a) none kind arg x h k e c l = rw (le-ltb (2 ^ 64 - 1) a (omega arith)) (e a refl)
stored_taken (some a) (some b) kind arg x h k e c l = elim (cases_Bool (leb a b)) [
  | inl q ↦ rw (q, le-ltb b a (leb-true a b q)) (e a refl)
  | inr q ↦ rw (q, lt-ltb b a (leb-false a b q))
]

pub fits_least : (f : ℕ → Option ℕ) (n : ℕ) → ((x : ℕ) → 1 ≤ x → x ≤ n → Fits (f x)) → Fits (least f n)
fits_least f n h =
    fits (least f n)
    (λ c e. let s = smallest f n c e in fits_some (f (arg_least f n)) c (h (arg_least f n) s.low s.high) s.reached)

lower_none : (a : Option ℕ) → lower a none ≡ a
lower_none none = refl
lower_none (some a) = refl

-- kinds without a value past n change nothing
module _ (f : ℕ → Option ℕ) (n : ℕ) where
  pub least_past : (m : ℕ) → ((x : ℕ) → n < x → x ≤ n + m → f x ≡ none) → least f (n + m) ≡ least f n
  unfolding least
  least_past zero h = rw add-zero
  least_past (suc m) h =
      let s : n + suc m ≡ suc (n + m) = omega arith in
      rw (s, h (suc (n + m)) (omega arith) (omega arith)) (lower_none (least f (n + m)) ∙ least_past m (λ x l u. h x l (omega arith)))

  pub arg_past : (m : ℕ) → ((x : ℕ) → n < x → x ≤ n + m → f x ≡ none) → (c : ℕ) → least f n ≡ some c → arg_least f (n + m) ≡ arg_least f n
  unfolding arg_least
  arg_past zero h c e = rw add-zero
  arg_past (suc m) h c e =
      let s : n + suc m ≡ suc (n + m) = omega arith in
      let earlier : (x : ℕ) → n < x → x ≤ n + m → f x ≡ none = λ x l u. h x l (omega arith) in
      rw (s, h (suc (n + m)) (omega arith) (omega arith), least_past m earlier ∙ e) (arg_past m earlier c e)
