-- A writer's promise, from its answer, from what it leaves in the buffer, and from its message's laws.
-- Assumes nothing.
use Rattle.std.specs.Prelude.{Ok, Err}
use Prim.Native.Nat.{ℕ, ◌≤◌}
use mathlib.Core.Path.{◌≡◌, refl, sym, ap, ◌∙◌}
use mathlib.Core.Bool.{Bool, true, false, cond}
use mathlib.Core.Logic.{◌↔◌, ◌≢◌}
use mathlib.Core.List.{List, ◌++◌}
use native.Mathlib.Nat.{zero-add}
use native.Mathlib.Omega.{arith}
use lib.Dec.{leb}
use lib.ListN.{length, take, drop}
use lib.Seq.{sets, sets-eq, length-sets, take-append_seam, drop-append_seam}
use borrow.Author.Tests.{le-leb, leb-true}
use Rattle.refusal.specs.declared.Reason.{Reason}
use Rattle.refusal.specs.declared.Reason.TheVariants.{Buffer}
use Rattle.refusal.specs.Answers.{written_number, refusal_of, Verdict, Written, Accepted}
use Rattle.fields.specs.Lists.{Bytes}
use Rattle.fields.specs.Messages.{write_answer, buffer_after}
use Rattle.fields.specs.Writers.{Writes}
use Rattle.fields.proofs.Answering.{Answered}

-- a message written from the first byte on stands there, and bytes behind it are as before
module _ (s buffer : List ℕ) (h : length s ≤ length buffer) where
  parts : sets buffer 0 s ≡ s ++ drop (length s) buffer
  parts = sets-eq s buffer 0 (omega arith) ∙ ap (λ (n : ℕ). s ++ drop n buffer) (zero-add (length s))

  pub stands : take (length s) (sets buffer 0 s) ≡ s
  stands = ap (take (length s)) parts ∙ take-append_seam s (drop (length s) buffer)

  pub behind : drop (length s) (sets buffer 0 s) ≡ drop (length s) buffer
  behind = ap (drop (length s)) parts ∙ drop-append_seam s (drop (length s) buffer)

-- so many bytes are answered only of an accepted record and a buffer that is long enough
was_written : (least : ℕ) (v : Verdict) (room : ℕ) (message : List ℕ) (n : ℕ) → write_answer least v room message ≡ Ok n
    → (v ≡ Accepted) × (leb least room ≡ true)
was_written least (Ok tt) room message n e = (refl, roomy (leb least room) e)
  where
    roomy : (b : Bool) → cond b (Ok (length message)) (Err Buffer) ≡ Ok n → b ≡ true
    roomy true e = refl
    roomy false e = let z : ◌≡◌ {A = ℕ} 0 1 = cc in absurd (omega arith)
was_written least (Err r) room message n e = let z : ◌≡◌ {A = ℕ} 0 1 = cc in absurd (omega arith)

module _ {R : Type 0} (least : ℕ) (Valid : R → Type 0) (Same : R → R → Type 0) (verdict : List ℕ → Verdict) (record_of : List ℕ → R)
    (judge : R → Verdict) (message : R → List ℕ) where
  -- what the promise asks of a message
  pub record Laws : Type 0 where
    -- the writer's verdict accepts what is valid, and its message fits the least buffer
    pub accepts : (r : R) → (judge r ≡ Accepted) ↔ Valid r
    pub short : (r : R) → Valid r → length (message r) ≤ least
    -- both round trips
    pub there : (r : R) → Valid r → (verdict (message r) ≡ Accepted) × Same (record_of (message r)) r
    pub back : (s : List ℕ) → Bytes s → verdict s ≡ Accepted → (message (record_of s) ≡ s) × Valid (record_of s)

module _ {R : Type 0} {least : ℕ} {Valid : R → Type 0} {Same : R → R → Type 0} {verdict : List ℕ → Verdict} {record_of : List ℕ → R}
    {judge : R → Verdict} {message : R → List ℕ} (L : Laws least Valid Same verdict record_of judge message)
    (r : R) (buffer buffer' : List ℕ) (answer : Written) (a : Answered least (judge r) (message r) buffer answer buffer') where
  -- a refusal leaves the buffer
  left : (why : Reason) → answer ≡ Err why → buffer' ≡ buffer
  left why e = a.1 ∙ ap (λ (d : Written). buffer_after d (message r) buffer) (sym a.0 ∙ e)

  -- a valid record and room for it
  module _ (v : Valid r) (h : least ≤ length buffer) where
    wrote : (answer ≡ Ok (length (message r))) × (buffer' ≡ sets buffer 0 (message r))
    wrote =
        let due : write_answer least (judge r) (length buffer) (message r) ≡ Ok (length (message r)) =
        rw ((L.accepts r).1 v, le-leb least (length buffer) h) in
        (a.0 ∙ due, a.1 ∙ ap (λ (d : Written). buffer_after d (message r) buffer) due)

    fits : length (message r) ≤ length buffer
    fits = omega (arith, L.short r v)

    taken : take (length (message r)) buffer' ≡ message r
    taken = ap (take (length (message r))) wrote.1 ∙ stands (message r) buffer fits

  told : (n : ℕ) → answer ≡ Ok n → Valid r × (least ≤ length buffer)
  told n e =
      let w = was_written least (judge r) (length buffer) (message r) n (sym a.0 ∙ e) in
      ((L.accepts r).0 w.0, leb-true least (length buffer) w.1)

  pub writes : Writes least Valid Same verdict record_of r buffer buffer' answer
  writes = record {
    refused = λ other. go answer refl other;
    written = λ v h.
        let (number, bytes) = wrote v h in
        let (accepted, same) = L.there r v in
        let long : length (message r) ≤ length buffer' = rw (bytes, length-sets) (fits v h) in
        (length (message r), number, rw number (omega arith), rw number (omega arith), long, rw (taken v h) accepted, rw (taken v h) same);
    rewritten = λ s y accepted is h.
        let b = L.back s y accepted in
        let same : message r ≡ s = ap message is ∙ b.0 in
        let v : Valid r = rw is b.1 in
        (rw (← same) (wrote v h).0, rw (← same) (taken v h));
    behind = λ n e.
        let (v, h) = told n e in
        let same : n ≡ length (message r) = bytes_same (sym e ∙ (wrote v h).0) in
        rw (same, (wrote v h).1) (behind (message r) buffer (fits v h));
  }
    where
      go : (w : Written) → answer ≡ w → refusal_of (written_number answer) ≢ 0 → buffer' ≡ buffer
      go (Ok n) e other = absurd (other (rw e (omega arith)))
      go (Err why) e other = left why e

      bytes_same : {m n : ℕ} → ◌≡◌ {A = Written} (Ok m) (Ok n) → m ≡ n
      bytes_same e = cc
