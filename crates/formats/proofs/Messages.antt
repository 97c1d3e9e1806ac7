-- The laws of a message: what its reader, its writer and its verdict promise together, of the definitions that a reader must believe.
-- Assumes nothing.
use Rattle.refusal.specs.Answers.{Verdict, Accepted}
use Rattle.std.specs.Prelude.{Err}
use Prim.Native.Nat.{ℕ, ◌+◌, ◌<◌, ◌≤◌}
use mathlib.Core.Path.{◌≡◌, sym, ap, ◌∙◌}
use mathlib.Core.Logic.{◌↔◌}
use mathlib.Core.Bool.{true}
use mathlib.Core.List.{List, [], ◌∷◌, ◌++◌}
use native.Mathlib.Omega.{arith}
use lib.ListN.{length, take}
use Rattle.refusal.specs.declared.Reason.{Reason}
use Rattle.refusal.specs.declared.Reason.TheVariants.{Opening, LeftOver}
use Rattle.number.specs.Readers.{found, refused, Reader}
use Rattle.fields.specs.Messages.{opens}
use Rattle.fields.specs.Lists.{Bytes}
use Rattle.fields.proofs.Refusing.{Gives}
use Rattle.formats.proofs.Refusals.{Arises}
use Rattle.formats.proofs.Formats.{Format}
use Rattle.formats.proofs.Whole.{whole, whole_written, whole_refuses, whole_found, whole_bytes, whole_same, whole_gives}

pub record Message {R : Type 0} (read : Reader R) (message : R → List ℕ) (Valid Known Fits : R → Type 0) (judge : R → Verdict) (cleared : R → R)
    (most enough : ℕ) (whys : List Reason) : Type 0 where
  -- a valid record, written and read, is the same record, cleared past its counts
  pub written : (q : R) → Valid q → read (message q) 0 ≡ found (cleared q) (length (message q))
  -- what was read is known, and holds 0 past its counts
  pub known : (s : List ℕ) (q : R) (n : ℕ) → read s 0 ≡ found q n → Known q × (cleared q ≡ q)
  -- bytes that were read are the message of what was read, which is valid
  pub back : (s : List ℕ) → Bytes s → (q : R) (n : ℕ) → read s 0 ≡ found q n → (message q ≡ s) × Valid q
  -- no message is longer than `most`, and the first `enough` bytes decide what is read
  pub short : (q : R) → Valid q → length (message q) ≤ most
  pub same : (s : List ℕ) → read (take enough s) 0 ≡ read s 0
  -- the reader's refusals
  pub gives : (s : List ℕ) → Gives (Arises whys) (read s 0)
  -- the writer takes what is valid
  pub accepts : (q : R) → (judge q ≡ Accepted) ↔ Valid q
  -- a record whose numbers fit a message: the writer refuses it with the refusal that the reader would give its message
  pub refuses : (q : R) (r : Reason) → Fits q → judge q ≡ Err r → read (message q) 0 ≡ refused r

-- how those definitions say the format: `view` is a record's parts
pub record Tied {R A : Type 0} {wide far : ℕ} {whys : List Reason} (a b : ℕ) (F : Format A (Unit {0}) wide far whys) (make : A → R) (view : R → A)
    (read : Reader R) (message : R → List ℕ) (Valid Known Fits : R → Type 0) (judge : R → Verdict) (cleared : R → R) : Type 0 where
  pub read_is : (s : List ℕ) → read s 0 ≡ whole a b F make s 0
  pub message_is : (q : R) → message q ≡ (a ∷ b ∷ []) ++ F.write (view q)
  pub valid_is : (q : R) → F.Ok (view q) ↔ Valid q
  pub known_is : (q : R) → F.Known (view q) → Known q
  pub fits_is : (q : R) → Fits q → F.Small (view q)
  pub judge_is : (q : R) → judge q ≡ F.judge (view q)
  pub cleared_is : (q : R) → cleared q ≡ make (view q)
  -- a record has as many of each part as its counts say, and one that was made of parts that were found holds them
  pub sized : (q : R) → F.Sized (view q)
  pub holds : (parts : A) → F.Known parts → view (make parts) ≡ parts

module _ {R A : Type 0} {wide far : ℕ} {whys : List Reason} {a b : ℕ} {F : Format A (Unit {0}) wide far whys} {make : A → R} {view : R → A}
    {read : Reader R} {message : R → List ℕ} {Valid Known Fits : R → Type 0} {judge : R → Verdict} {cleared : R → R}
    (T : Tied a b F make view read message Valid Known Fits judge cleared) where
  -- the parts of what was read
  read_parts : (s : List ℕ) (q : R) (n : ℕ) → read s 0 ≡ found q n
      → (make (view q) ≡ q) × (opens a b s ≡ true) × (F.read s 2 ≡ found (view q) (length s))
  read_parts s q n e =
      let (parts, m, o, f) = whole_found a b F make s q n (sym (T.read_is s) ∙ e) in
      let h : view q ≡ parts = ap view (sym m) ∙ T.holds parts (F.reads tt s 2 parts (length s) f).0 in
      (ap make h ∙ m, o, f ∙ ap (λ (p : A). found p (length s)) (sym h))

  pub laws : (enough : ℕ) → 2 + far ≤ enough → 2 + wide < enough
      → Message read message Valid Known Fits judge cleared (2 + wide) enough (Opening ∷ LeftOver ∷ whys)
  laws enough f w = record {
    written = λ q v. rw (T.message_is q, T.read_is, T.cleared_is q) (whole_written a b F make (view q) ((T.valid_is q).1 v));
    known = λ s q n e. let (m, o, f) = read_parts s q n e in (T.known_is q (F.reads tt s 2 (view q) (length s) f).0, T.cleared_is q ∙ m);
    back = λ s y q n e.
        let (m, o, f) = read_parts s q n e in
        let (k, p) = whole_bytes a b F make s y (view q) o f in
        (T.message_is q ∙ p, (T.valid_is q).0 k);
    short = λ q v. rw (T.message_is q) (omega (arith, F.short tt (view q) ((T.valid_is q).1 v)));
    same = λ s. T.read_is (take enough s) ∙ whole_same a b F make enough f w s ∙ sym (T.read_is s);
    gives = λ s r e. whole_gives a b F make s r (sym (T.read_is s) ∙ e);
    accepts = λ q. let x = F.accepts tt (view q) (T.sized q) in
        (λ e. (T.valid_is q).0 (x.0 (sym (T.judge_is q) ∙ e)), λ v. T.judge_is q ∙ x.1 ((T.valid_is q).1 v));
    refuses = λ q r k j. rw (T.message_is q, T.read_is) (whole_refuses a b F make (view q) r (T.sized q) (T.fits_is q k) (sym (T.judge_is q) ∙ j));
  }
