-- A call's checks: a verdict by two tests; a check and what follows it, how the two end and which of them gives a refusal.
-- Assumes nothing.
use Rattle.refusal.specs.Answers.{Verdict, Accepted, Answer}
use Rattle.std.specs.Prelude.{Ok, Err}
use Prim.Native.Nat.{ℕ}
use mathlib.Core.Bool.{Bool, true, false, cond}
use mathlib.Core.List.{List}
use mathlib.Core.Logic.{◌↔◌, ◌≢◌}
use mathlib.Core.Path.{◌≡◌, refl, sym}
use native.Mathlib.Omega.{arith}
use Rattle.refusal.specs.declared.Reason.{Reason}
use Rattle.refusal.specs.Reasons.{reason_number}
use Rattle.best_order.specs.Endings.{Ending, refused, if_accepted, answer_of}
use Rattle.best_order.proofs.Calls.{OfCall}

not_both : {r : Reason} → Err r ≡ Accepted → ⊥
not_both e = let z : ◌≡◌ {A = ℕ} 0 1 = cc in omega arith

-- what is answered was judged
judged : {r r' : Reason} → ◌≡◌ {A = Answer} (Err r') (Err r) → ◌≡◌ {A = Verdict} (Err r') (Err r)
judged a = cc

-- ---- a check of two tests

module _ (x y : Reason) where
  -- refused where the first fires, then where the second does
  abbrev pub two_tests : Bool → Bool → Verdict
  two_tests a b = cond a (Err x) (cond b (Err y) Accepted)

  -- a refusal is one of the two, under its condition ..
  pub two_refusals : (a b : Bool) (S : Reason → Type 0) → (a ≡ true → S x) → (a ≡ false → b ≡ true → S y) → (r : Reason) → two_tests a b ≡ Err r → S r
  two_refusals true b S first second r h = let e : r ≡ x = cc in rw e (first refl)
  two_refusals false true S first second r h = let e : r ≡ y = cc in rw e (second refl refl)
  two_refusals false false S first second r h = absurd (not_both (sym h))

  -- .. and has no other number
  pub two_not : (a b : Bool) (r : Reason) → reason_number r ≢ reason_number x → reason_number r ≢ reason_number y → two_tests a b ≡ Err r → ⊥
  two_not a b r p q h = two_refusals a b (λ r'. reason_number r' ≢ reason_number r) (λ _ e. p (sym e)) (λ _ _ e. q (sym e)) r h refl

  pub two_accepted : (a b : Bool) → two_tests a b ≡ Accepted → (a ≡ false) × (b ≡ false)
  two_accepted true b h = absurd (not_both h)
  two_accepted false true h = absurd (not_both h)
  two_accepted false false h = (refl, refl)

-- ---- a check, and what follows it

-- a check's refusal ends the call ..
pub check_refused : {v : Verdict} {r : Reason} (e : Ending) → v ≡ Err r → if_accepted v e ≡ refused r
check_refused e h = rw h

-- .. and once it accepts, the call ends as what follows
pub check_accepted : {v : Verdict} (e : Ending) → v ≡ Accepted → if_accepted v e ≡ e
check_accepted e h = rw h

-- so that it ends as a call does where the check's refusals do, and what follows
pub check_of_call : (s : List ℕ) (v : Verdict) (e : Ending) → ((r : Reason) → v ≡ Err r → OfCall s (refused r)) → (v ≡ Accepted → OfCall s e)
    → OfCall s (if_accepted v e)
check_of_call s (Ok tt) e refusals rest = rest refl
check_of_call s (Err r) e refusals rest = refusals r refl

-- a refusal that nothing after the check gives is the check's
pub refused_here : (v : Verdict) (e : Ending) (r : Reason) → (answer_of e ≡ Err r → ⊥) → (answer_of (if_accepted v e) ≡ Err r) ↔ (v ≡ Err r)
refused_here (Ok tt) e r never = ((λ a. absurd (never a)), (λ h. absurd (not_both (sym h))))
refused_here (Err r') e r never = (judged, back)
  where
    back : ◌≡◌ {A = Verdict} (Err r') (Err r) → ◌≡◌ {A = Answer} (Err r') (Err r)
    back h = cc

-- one that the check never gives is given by what follows, once the check accepts
pub refused_later : (v : Verdict) (e : Ending) (r : Reason) → (v ≡ Err r → ⊥)
    → (answer_of (if_accepted v e) ≡ Err r) ↔ ((v ≡ Accepted) × (answer_of e ≡ Err r))
refused_later (Ok tt) e r never = ((λ a. (refl, a)), (λ h. h.1))
refused_later (Err r') e r never = ((λ a. absurd (never (judged a))), (λ h. absurd (not_both h.0)))

pub never_refused : (v : Verdict) (e : Ending) (r : Reason) → (v ≡ Err r → ⊥) → (answer_of e ≡ Err r → ⊥) → answer_of (if_accepted v e) ≡ Err r → ⊥
never_refused v e r not-here not-later a = not-later ((refused_later v e r not-here).0 a).1

-- ---- conditions of several checks

module _ {A B C : Type 0} where
  pub through : A ↔ B → B ↔ C → A ↔ C
  through f g = ((λ a. g.0 (f.0 a)), (λ c. f.1 (g.1 c)))

  -- of a check, and then of what follows it
  pub then : {D : Type 0} → A ↔ (B × C) → (B → C ↔ D) → A ↔ (B × D)
  then f g = ((λ a. let (b, c) = f.0 a in (b, (g b).0 c)), (λ h. f.1 (h.0, (g h.0).1 h.1)))

  -- which asks three things
  pub then_three : {D E F : Type 0} → A ↔ (B × C) → (B → C ↔ (D × E × F)) → A ↔ (B × D × E × F)
  then_three f g = (
    (λ a. let (b, c) = f.0 a in let (d, e, x) = (g b).0 c in (b, d, e, x)),
    (λ h. f.1 (h.0, (g h.0).1 (h.1, h.2, h.3))),
  )

  -- of a check that asks two things, and of what follows it
  pub then_both : {D E F : Type 0} → A ↔ (B × C) → B ↔ (D × E) → C ↔ F → A ↔ (D × E × F)
  then_both f g k = (
    (λ a. let (b, c) = f.0 a in ((g.0 b).0, (g.0 b).1, k.0 c)),
    (λ h. f.1 (g.1 (h.0, h.1), k.1 h.2)),
  )
