-- A format told otherwise: by another reader and writer, by another verdict, as another type.
-- Assumes nothing.
use Rattle.refusal.specs.Answers.{Verdict, Accepted}
use Prim.Native.Nat.{ℕ, ◌+◌, ◌≤◌}
use mathlib.Core.Path.{◌≡◌, sym, ap, ◌∙◌, subst₂}
use mathlib.Core.Logic.{◌↔◌}
use mathlib.Core.List.{List}
use lib.ListN.{length, take}
use Rattle.refusal.specs.declared.Reason.{Reason}
use Rattle.number.specs.Readers.{found, Reader, and_then}
use Rattle.number.proofs.Steps.{went_on, found_value, found_next}
use Rattle.fields.specs.Lists.{Bytes}
use Rattle.fields.proofs.Codecs.{Stand}
use Rattle.fields.proofs.Refusing.{gives_found, gives_then}
use Rattle.formats.proofs.Refusals.{Arises}
use Rattle.formats.proofs.Formats.{Format}

-- the same format by a reader and a writer that are written otherwise: for the definitions that a reader must believe
abbrev pub retold : {A Given : Type 0} {wide far : ℕ} {whys : List Reason} (F : Format A Given wide far whys) (read : Reader A) (write : A → List ℕ)
    → ((s : List ℕ) (at : ℕ) → read s at ≡ F.read s at) → ((a : A) → write a ≡ F.write a) → Format A Given wide far whys
retold F read write read_is write-is = record {
  read = read;
  write = write;
  Ok = F.Ok;
  Known = F.Known;
  known = F.known;
  Sized = F.Sized;
  Small = F.Small;
  judge = F.judge;
  reads = λ z s at a n e. let (k, l, b) = F.reads z s at a n (sym (read_is s at) ∙ e) in (k, l, λ y. (rw (write-is a) (b y).0, (b y).1));
  writes = λ z s at a rest k e. rw (write-is a) (read_is s at ∙ F.writes z s at a rest k (rw (write-is a) at e));
  short = λ z a k. rw (write-is a) (F.short z a k);
  same = λ z s at m h. read_is (take m s) at ∙ F.same z s at m h ∙ sym (read_is s at);
  gives = λ s at r e. F.gives s at r (sym (read_is s at) ∙ e);
  accepts = F.accepts;
  refuses = λ z s at a rest r n k e j. read_is s at ∙ F.refuses z s at a rest r n k (rw (write-is a) at e) j;
}

-- the same bytes, with the bounds on a value and its verdict said otherwise: for what 01 says of a part as a whole
pub record Rejudging {A Given : Type 0} {wide far : ℕ} {whys : List Reason} (F : Format A Given wide far whys) (wide' : ℕ) : Type 1 where
  pub Ok : A → Type 0
  pub Known : A → Type 0
  pub known : Given → (a : A) → Ok a → Known a
  pub finds : Given → (s : List ℕ) (at : ℕ) (a : A) (n : ℕ) → F.read s at ≡ found a n → Known a × (n ≤ at + wide')
  pub Sized : A → Type 0
  pub judge : A → Verdict
  pub ok_is : Given → (a : A) → F.Ok a ↔ Ok a
  pub short : Given → (a : A) → Ok a → length (F.write a) ≤ wide'
  pub accepts : Given → (a : A) → Sized a → (judge a ≡ Accepted) ↔ Ok a
  pub sized_is : (a : A) → Sized a → F.Sized a
  pub judge_is : (a : A) → F.Small a → judge a ≡ F.judge a

abbrev pub rejudged : {A Given : Type 0} {wide far wide' : ℕ} {whys : List Reason} (F : Format A Given wide far whys) → Rejudging F wide' → Format A Given wide' far whys
rejudged F R = record {
  read = F.read;
  write = F.write;
  Ok = R.Ok;
  Known = R.Known;
  known = R.known;
  Sized = R.Sized;
  Small = F.Small;
  judge = R.judge;
  reads = λ z s at a n e.
      let (k, l) = R.finds z s at a n e in
      (k, l, λ y. let b = (F.reads z s at a n e).2 y in (b.0, (R.ok_is z a).0 b.1));
  writes = λ z s at a rest k e. F.writes z s at a rest ((R.ok_is z a).1 k) e;
  short = R.short;
  same = F.same;
  gives = F.gives;
  accepts = R.accepts;
  refuses = λ z s at a rest r n k e j. F.refuses z s at a rest r (R.sized_is a n) k e (sym (R.judge_is a k) ∙ j);
}

-- the same bytes as the values of another type: for parts that stand in a record
abbrev pub mapped : {A B Given : Type 0} {wide far : ℕ} {whys : List Reason} (F : Format A Given wide far whys) (make : A → B) (view : B → A)
    → ((a : A) → view (make a) ≡ a) → ((b : B) → make (view b) ≡ b) → Format B Given wide far whys
mapped {wide} {whys} F make view there back = record {
  read = λ s at. and_then (F.read s at) (λ a n. found (make a) n);
  write = λ b. F.write (view b);
  Ok = λ b. F.Ok (view b);
  Known = λ b. F.Known (view b);
  known = λ z b. F.known z (view b);
  Sized = λ b. F.Sized (view b);
  Small = λ b. F.Small (view b);
  judge = λ b. F.judge (view b);
  reads = λ z s at b n e.
      let (a, i, f, p) = went_on (F.read s at) (λ a n. found (make a) n) b n e in
      let same : a ≡ view b = sym (there a) ∙ ap view (found_value (make a) b i n p) in
      subst₂ (λ c m. F.Known c × (m ≤ at + wide) × (Bytes s → Stand s at (F.write c) m × F.Ok c)) same (found_next (make a) b i n p)
      (F.reads z s at a i f);
  writes = λ z s at b rest k e. rw (F.writes z s at (view b) rest k e, back b);
  short = λ z b k. F.short z (view b) k;
  same = λ z s at m h. ap (λ f. and_then f (λ a n. found (make a) n)) (F.same z s at m h);
  gives = λ s at. gives_then (Arises whys) (F.read s at) _ (F.gives s at) (λ a n. gives_found (Arises whys) (make a) n);
  accepts = λ z b n. F.accepts z (view b) n;
  refuses = λ z s at b rest r n k e j. rw (F.refuses z s at (view b) rest r n k e j);
}
