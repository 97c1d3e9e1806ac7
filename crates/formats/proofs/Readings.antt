-- The laws of a message, said of what reading bytes gives: a verdict and a record.
-- Assumes nothing.
use Rattle.std.specs.Prelude.{Ok, Err, Result}
use Prim.Native.Nat.{ℕ}
use mathlib.Core.Path.{◌≡◌, refl, sym, ap, ◌∙◌}
use mathlib.Core.Logic.{◌↔◌, ◌≢◌}
use mathlib.Core.List.{List}
use native.Mathlib.Omega.{arith}
use lib.ListN.{length}
use Rattle.refusal.specs.declared.Reason.{Reason}
use Rattle.refusal.specs.Answers.{verdict_number, refusal_of, Verdict, Accepted}
use Rattle.number.specs.Readers.{Found, found, refused, Reader}
use Rattle.number.specs.Inputs.{answered}
use Rattle.fields.specs.Lists.{Bytes}
use Rattle.fields.proofs.Writers.{Laws}
use Rattle.formats.proofs.Verdicts.{not_accepted}
use Rattle.formats.proofs.Refusals.{Arises}
use Rattle.formats.proofs.Messages.{Message}

-- reading gives the record that was found, or the refusal with the record of a refused message
pub record Reads {R : Type 0} (read : Reader R) (blank : R) (verdict : List ℕ → Verdict) (record_of : List ℕ → R) : Type 0 where
  pub on_found : (s : List ℕ) (q : R) (n : ℕ) → read s 0 ≡ found q n → (verdict s ≡ Accepted) × (record_of s ≡ q)
  pub on_refused : (s : List ℕ) (r : Reason) → read s 0 ≡ refused r → (verdict s ≡ Err r) × (record_of s ≡ blank)

module _ {R : Type 0} {read : Reader R} {blank : R} {verdict : List ℕ → Verdict} {record_of : List ℕ → R}
    (T : Reads read blank verdict record_of) (s : List ℕ) where
  accepted_found : verdict s ≡ Accepted → (n : ℕ) × (read s 0 ≡ found (record_of s) n)
  accepted_found e = go (read s 0) refl
    where
      go : (f : Found R) → read s 0 ≡ f → (n : ℕ) × (read s 0 ≡ found (record_of s) n)
      go (found q n) h = (n, h ∙ ap (λ (p : R). found p n) (sym (T.on_found s q n h).1))
      go (refused r) h = not_accepted r (sym (T.on_refused s r h).0 ∙ e)

  refused_found : (r : Reason) → verdict s ≡ Err r → read s 0 ≡ refused r
  refused_found r e = go (read s 0) refl
    where
      go : (f : Found R) → read s 0 ≡ f → read s 0 ≡ refused r
      go (found q n) h = not_accepted r (sym e ∙ (T.on_found s q n h).0)
      go (refused w) h = let same : Err w ≡ Err r = sym (T.on_refused s w h).0 ∙ e in h ∙ cc

  -- what code answers of a message is what reading it gives: the record, or the refusal
  pub accepted_answer : verdict s ≡ Accepted → answered (read s 0) ≡ Ok (record_of s)
  accepted_answer e = ap answered (accepted_found e).1

  pub refused_answer : (r : Reason) → verdict s ≡ Err r → answered (read s 0) ≡ Err r
  refused_answer r e = ap answered (refused_found r e)

  record_found : (f : Found R) → read s 0 ≡ f → (q : R) → ◌≡◌ {A = Result R Reason} (Ok q) (answered f) → (verdict s ≡ Accepted) × (record_of s ≡ q)
  record_found (found p n) h q e = let same : p ≡ q = cc in let (a, is) = T.on_found s p n h in (a, is ∙ same)
  record_found (refused r) h q e = let z : ◌≡◌ {A = ℕ} 0 1 = cc in absurd (omega arith)

  refusal_found : (f : Found R) → read s 0 ≡ f → (r : Reason) → ◌≡◌ {A = Result R Reason} (Err r) (answered f) → verdict s ≡ Err r
  refusal_found (found p n) h r e = let z : ◌≡◌ {A = ℕ} 0 1 = cc in absurd (omega arith)
  refusal_found (refused w) h r e = let same : Err w ≡ Err r = cc in (T.on_refused s w h).0 ∙ same

  -- .. and the other way: what code answers is what the message has
  pub answer_accepted : (q : R) → ◌≡◌ {A = Result R Reason} (Ok q) (answered (read s 0)) → (verdict s ≡ Accepted) × (record_of s ≡ q)
  answer_accepted = record_found (read s 0) refl

  pub answer_refused : (r : Reason) → ◌≡◌ {A = Result R Reason} (Err r) (answered (read s 0)) → verdict s ≡ Err r
  answer_refused = refusal_found (read s 0) refl

  -- a refused reading, by its number alone: its record is all 0
  pub refused_blank : refusal_of (verdict_number (verdict s)) ≢ 0 → record_of s ≡ blank
  refused_blank other = go (read s 0) refl
    where
      go : (f : Found R) → read s 0 ≡ f → record_of s ≡ blank
      go (found q n) h = absurd (other (rw (T.on_found s q n h).0))
      go (refused r) h = (T.on_refused s r h).1

module _ {R : Type 0} {read : Reader R} {message : R → List ℕ} {Valid Known Fits : R → Type 0} {judge : R → Verdict} {cleared : R → R}
    {most enough : ℕ} {whys : List Reason} {blank : R} {verdict : List ℕ → Verdict} {record_of : List ℕ → R}
    (M : Message read message Valid Known Fits judge cleared most enough whys) (T : Reads read blank verdict record_of) where
  there : (q : R) → Valid q → (verdict (message q) ≡ Accepted) × (record_of (message q) ≡ cleared q)
  there q v = T.on_found (message q) (cleared q) (length (message q)) (M.written q v)

  -- an accepted record is known, and holds 0 past its counts
  pub accepted_known : (s : List ℕ) → verdict s ≡ Accepted → Known (record_of s) × (cleared (record_of s) ≡ record_of s)
  accepted_known s a = let (n, e) = accepted_found T s a in M.known s (record_of s) n e

  -- accepted bytes, read and written, are the same bytes, and what was read is valid
  pub accepted_back : (s : List ℕ) → Bytes s → verdict s ≡ Accepted → (message (record_of s) ≡ s) × Valid (record_of s)
  accepted_back s y a = let (n, e) = accepted_found T s a in M.back s y (record_of s) n e

  -- bytes are accepted exactly when they are the message of a valid record
  pub accepted_if : (s : List ℕ) → Bytes s → (verdict s ≡ Accepted) ↔ ((q : R) × Valid q × (s ≡ message q))
  accepted_if s y = (
    λ a. let (m, v) = accepted_back s y a in (record_of s, v, sym m),
    λ (q, v, e). ap verdict e ∙ (there q v).0,
  )

  -- the reader's refusals
  pub refusal_arises : (s : List ℕ) (r : Reason) → verdict s ≡ Err r → Arises whys r
  refusal_arises s r e = M.gives s r (refused_found T s r e)

  -- a record that fits a message: the writer refuses it with the refusal that the reader would give its message
  pub refused_like : (q : R) (r : Reason) → Fits q → judge q ≡ Err r → verdict (message q) ≡ Err r
  refused_like q r k j = (T.on_refused (message q) r (M.refuses q r k j)).0

  -- what the writer's promise asks, where a record with 0 past its counts is the same up to them
  pub writer_laws : {Same : R → R → Type 0} → ((q : R) → Valid q → Same (cleared q) q) → Laws most Valid Same verdict record_of judge message
  writer_laws {Same} same = record {
    accepts = M.accepts;
    short = M.short;
    there = λ q v. let (a, e) = there q v in (a, rw e (same q v));
    back = accepted_back;
  }
