-- A whole message, as it is read: an opening, one format, and nothing left over; and the record that is made of its parts.
-- Assumes nothing.
use Rattle.std.specs.Prelude.{Err}
use Prim.Native.Nat.{ℕ, ◌+◌, ◌<◌, ◌≤◌}
use mathlib.Core.Path.{◌≡◌, refl, sym, ap, ◌∙◌}
use mathlib.Core.Bool.{Bool, true, cond}
use mathlib.Core.Logic.{inl, inr}
use mathlib.Core.List.{List, [], ◌∷◌, ◌++◌, append-nil}
use native.Mathlib.Omega.{arith}
use lib.Dec.{eqb}
use lib.ListN.{length, take, drop}
use lib.Seq.{drop-length}
use borrow.Author.Tests.{eq-eqb, eqb-true}
use Rattle.refusal.specs.declared.Reason.{Reason}
use Rattle.refusal.specs.declared.Reason.TheVariants.{Opening, LeftOver}
use Rattle.number.specs.Readers.{found, refused, Reader, and_then, ◌>>=◌, ◌>>◌, give}
use Rattle.number.proofs.Steps.{went_on, passed, found_value, found_next}
use Rattle.fields.specs.Messages.{opens, opening, end}
use Rattle.fields.specs.Lists.{Bytes}
use Rattle.fields.proofs.Local.{and_same, opens_same, end_same}
use Rattle.fields.proofs.Refusing.{Gives, gives_found, gives_judged, gives_then}
use Rattle.fields.proofs.Openings.{opens_both, opens_bytes}
use Rattle.formats.proofs.Refusals.{Arises}
use Rattle.formats.proofs.Formats.{Format}

module _ {R A : Type 0} {wide far : ℕ} {whys : List Reason} (a b : ℕ) (F : Format A (Unit {0}) wide far whys) (make : A → R) where
  abbrev pub whole : Reader R
  whole = do
    opening a b
    parts ← F.read
    end
    give (make parts)

  -- parts that are Ok, written between the two ends, are found
  pub whole_written : (parts : A) → F.Ok parts → let s : List ℕ = (a ∷ b ∷ []) ++ F.write parts in whole s 0 ≡ found (make parts) (length s)
  whole_written parts k =
      let s = (a ∷ b ∷ []) ++ F.write parts in
      let n : 2 + length (F.write parts) ≡ length s = omega arith in
      rw (← opens_both a b s (omega arith) refl refl, F.writes tt s 2 parts [] k (sym (append-nil (F.write parts))), n, eq-eqb (length s) (length s) refl)

  -- parts that the verdict refuses, so written, are refused with the same refusal
  pub whole_refuses : (parts : A) (r : Reason) → F.Sized parts → F.Small parts → F.judge parts ≡ Err r → whole ((a ∷ b ∷ []) ++ F.write parts) 0 ≡ refused r
  whole_refuses parts r n k j =
      let s = (a ∷ b ∷ []) ++ F.write parts in
      rw (← opens_both a b s (omega arith) refl refl, F.refuses tt s 2 parts [] r n k (sym (append-nil (F.write parts))) j)

  -- what was found: the parts between the two ends
  pub whole_found : (s : List ℕ) (q : R) (n : ℕ) → whole s 0 ≡ found q n
      → (parts : A) × (make parts ≡ q) × (opens a b s ≡ true) × (F.read s 2 ≡ found parts (length s))
  whole_found s q n e =
      let (u, i, e₀, p₀) = went_on (opening a b s 0) _ q n e in
      let (parts, j, e₁, p₁) = went_on (F.read s i) _ q n p₀ in
      let (v, k, e₂, p₂) = went_on (end s j) _ q n p₁ in
      let o = passed (opens a b s) (found tt 2) Opening u i e₀ in
      let two : 2 ≡ i = found_next tt u 2 i o.1 in
      let last = eqb-true j (length s) (passed (eqb j (length s)) (found tt j) LeftOver v k e₂).0 in
      (parts, found_value (make parts) q k n p₂, o.0, ap (F.read s) two ∙ e₁ ∙ ap (found parts) last)

  -- .. in bytes they are written there
  pub whole_bytes : (s : List ℕ) → Bytes s → (parts : A) → opens a b s ≡ true → F.read s 2 ≡ found parts (length s)
      → F.Ok parts × ((a ∷ b ∷ []) ++ F.write parts ≡ s)
  whole_bytes s y parts o e =
      let r = (F.reads tt s 2 parts (length s) e).2 y in
      let rest : drop 2 s ≡ F.write parts = r.0.here ∙ ap (λ (l : List ℕ). F.write parts ++ l) (drop-length s) ∙ append-nil (F.write parts) in
      (r.1, sym (opens_bytes a b s o ∙ ap (λ (l : List ℕ). (a ∷ b ∷ []) ++ l) rest))

  -- its first m bytes decide
  pub whole_same : (m : ℕ) → 2 + far ≤ m → 2 + wide < m → (s : List ℕ) → whole (take m s) 0 ≡ whole s 0
  whole_same m f w s =
      and_same (opening a b (take m s) 0) (opening a b s 0) _ _ (ap (λ (t : Bool). cond t (found tt 2) (refused Opening)) (opens_same a b s m (omega arith)))
      λ u i e₀. let two : 2 ≡ i = found_next tt u 2 i (passed (opens a b s) (found tt 2) Opening u i e₀).1 in
      and_same (F.read (take m s) i) (F.read s i) _ _ (F.same tt s i m (omega arith))
      λ parts j e₁. ap (λ (t : Bool). and_then (cond t (found tt j) (refused LeftOver)) (λ _ k. found (make parts) k)) (end_same s j m (omega (arith, (F.reads tt s i parts j e₁).1)))

  -- its refusals
  pub whole_gives : (s : List ℕ) → Gives (Arises (Opening ∷ LeftOver ∷ whys)) (whole s 0)
  whole_gives s =
      let P = Arises (Opening ∷ LeftOver ∷ whys) in
      gives_then P (opening a b s 0) _ (gives_judged P (opens a b s) tt 2 Opening (inl refl))
      λ u i. gives_then P (F.read s i) _ (λ r e. inr (inr (F.gives s i r e)))
      λ parts j. gives_then P (end s j) _ (gives_judged P (eqb j (length s)) tt j LeftOver (inr (inl refl))) (λ _ k. gives_found P (make parts) k)
