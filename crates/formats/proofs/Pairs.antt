-- One part and then another, which may depend on what the first found.
-- Assumes nothing.
use Rattle.refusal.specs.Answers.{Verdict, Accepted}
use Rattle.std.specs.Prelude.{Ok, Err}
use Prim.Native.Nat.{ℕ, max, ◌+◌, ◌≤◌}
use mathlib.Core.Path.{◌≡◌, refl, ap, ◌∙◌, subst₂}
use mathlib.Core.Logic.{◌↔◌}
use mathlib.Core.List.{List, ◌++◌, append_assoc}
use native.Mathlib.Omega.{arith}
use lib.ListN.{length, take, drop, length-append}
use Rattle.refusal.specs.declared.Reason.{Reason}
use Rattle.number.specs.Readers.{Found, found, refused, Reader, and_then, ◌>>=◌, give}
use Rattle.number.proofs.Steps.{went_on, found_value, found_next}
use Rattle.fields.specs.Lists.{Bytes}
use Rattle.fields.proofs.Codecs.{Stand, stand_append, past}
use Rattle.fields.proofs.Local.{and_same}
use Rattle.fields.proofs.Refusing.{Gives, gives_found, gives_then}
use Rattle.fields.specs.Messages.{◌before◌}
use Rattle.formats.proofs.Verdicts.{before_accepts}
use Rattle.formats.proofs.Refusals.{Arises, arises_left, arises_right}
use Rattle.formats.proofs.Formats.{Format}

-- steps may be grouped as one likes
pub and_assoc : {A B C : Type 0} (f : Found A) (g : A → ℕ → Found B) (h : B → ℕ → Found C) → and_then (and_then f g) h ≡ and_then f (λ a n. and_then (g a n) h)
and_assoc (found a n) g h = refl
and_assoc (refused r) g h = refl

module _ {A B Given : Type 0} {wideA wideB farA farB : ℕ} {whysA whysB : List Reason}
    (F : Format A Given wideA farA whysA) (G : (a : A) → Format B (Given × F.Known a) wideB farB whysB) where
  abbrev pub both_read : Reader (A × B)
  both_read = do
    a ← F.read
    b ← (G a).read
    give (a, b)

  abbrev pub both_bytes : A × B → List ℕ
  both_bytes p = F.write p.0 ++ (G p.0).write p.1

  abbrev pub BothOk : A × B → Type 0
  BothOk p = F.Ok p.0 × (G p.0).Ok p.1

  abbrev pub BothKnown : A × B → Type 0
  BothKnown p = F.Known p.0 × (G p.0).Known p.1

  pub pair_known : Given → (p : A × B) → BothOk p → BothKnown p
  pair_known z p k = let a = F.known z p.0 k.0 in (a, (G p.0).known (z, a) p.1 k.1)

  pub pair_reads : Given → (s : List ℕ) (at : ℕ) (p : A × B) (n : ℕ) → both_read s at ≡ found p n
      → BothKnown p × (n ≤ at + (wideA + wideB)) × (Bytes s → Stand s at (both_bytes p) n × BothOk p)
  pair_reads z s at p n e =
      let (a, i, e₁, q₁) = went_on (F.read s at) _ p n e in
      let (b, k, e₂, q₂) = went_on ((G a).read s i) _ p n q₁ in
      let (known-a, near-a, stands-a) = F.reads z s at a i e₁ in
      let (known-b, near-b, stands_b) = (G a).reads (z, known-a) s i b k e₂ in
      subst₂ (λ (t : A × B) (m : ℕ). BothKnown t × (m ≤ at + (wideA + wideB)) × (Bytes s → Stand s at (both_bytes t) m × BothOk t))
      (found_value (a, b) p k n q₂) (found_next (a, b) p k n q₂) (
        (known-a, known-b),
        omega arith,
        λ y. let (x, okx) = stands-a y in let (u, oku) = stands_b y in (stand_append s at (F.write a) i ((G a).write b) k x u, (okx, oku)),
      )

  pub pair_writes : Given → (s : List ℕ) (at : ℕ) (p : A × B) (rest : List ℕ) → BothOk p → drop at s ≡ both_bytes p ++ rest
      → both_read s at ≡ found p (at + length (both_bytes p))
  pair_writes z s at p rest k e =
      let X = F.write p.0 in
      let Y = (G p.0).write p.1 in
      let e₁ = e ∙ append_assoc X Y rest in
      let known = F.known z p.0 k.0 in
      rw (F.writes z s at p.0 (Y ++ rest) k.0 e₁, (G p.0).writes (z, known) s (at + length X) p.1 rest k.1 (past s at X (Y ++ rest) e₁))
      (ap (found p) (omega (arith, length-append X Y)))

  pub pair_short : Given → (p : A × B) → BothOk p → length (both_bytes p) ≤ wideA + wideB
  pair_short z p k =
      let known = F.known z p.0 k.0 in
      omega (arith, length-append (F.write p.0) ((G p.0).write p.1), F.short z p.0 k.0, (G p.0).short (z, known) p.1 k.1)

  pub pair_same : Given → (s : List ℕ) (at m : ℕ) → at + max farA (wideA + farB) ≤ m → both_read (take m s) at ≡ both_read s at
  pair_same z s at m h =
      and_same (F.read (take m s) at) (F.read s at) _ _ (F.same z s at m (omega arith))
      (λ a i e₁. let x = F.reads z s at a i e₁ in
      and_same ((G a).read (take m s) i) ((G a).read s i) _ _ ((G a).same (z, x.0) s i m (omega (arith, x.1))) (λ b k e₂. refl))

  pub pair_gives : (s : List ℕ) (at : ℕ) → Gives (Arises (whysA ++ whysB)) (both_read s at)
  pair_gives s at =
      let P = Arises (whysA ++ whysB) in
      gives_then P (F.read s at) _ (λ r e. arises_left whysA whysB r (F.gives s at r e))
      (λ a i. gives_then P ((G a).read s i) _ (λ r e. arises_right whysA whysB r ((G a).gives s i r e)) (λ b k. gives_found P (a, b) k))

  pub pair_accepts : Given → (p : A × B) → F.Sized p.0 × (G p.0).Sized p.1 → (F.judge p.0 before (G p.0).judge p.1 ≡ Accepted) ↔ BothOk p
  pair_accepts z p n =
      let ands = before_accepts (F.judge p.0) ((G p.0).judge p.1) in (
        λ e. let k = (F.accepts z p.0 n.0).0 (ands.0 e).0 in (k, ((G p.0).accepts (z, F.known z p.0 k) p.1 n.1).0 (ands.0 e).1),
        λ k. ands.1 ((F.accepts z p.0 n.0).1 k.0, ((G p.0).accepts (z, F.known z p.0 k.0) p.1 n.1).1 k.1),
      )

  pub pair_refuses : Given → (s : List ℕ) (at : ℕ) (p : A × B) (rest : List ℕ) (r : Reason) → F.Sized p.0 × (G p.0).Sized p.1 → F.Small p.0 × (G p.0).Small p.1
      → drop at s ≡ both_bytes p ++ rest → F.judge p.0 before (G p.0).judge p.1 ≡ Err r → both_read s at ≡ refused r
  pair_refuses z s at p rest r n k e j = go (F.judge p.0) refl
    where
      e₁ : drop at s ≡ F.write p.0 ++ ((G p.0).write p.1 ++ rest)
      e₁ = e ∙ append_assoc (F.write p.0) ((G p.0).write p.1) rest

      go : (v : Verdict) → F.judge p.0 ≡ v → both_read s at ≡ refused r
      go (Ok tt) a =
          let ok = (F.accepts z p.0 n.0).0 a in
          rw (
            F.writes z s at p.0 ((G p.0).write p.1 ++ rest) ok e₁,
            (G p.0).refuses (z, F.known z p.0 ok) s (at + length (F.write p.0)) p.1 rest r n.1 k.1 (past s at (F.write p.0) ((G p.0).write p.1 ++ rest) e₁) (rw a at j),
          )
      go (Err q) a = let same : Err q ≡ Err r = rw a at j in rw (F.refuses z s at p.0 ((G p.0).write p.1 ++ rest) r n.0 k.0 e₁ (a ∙ same))

  -- two parts, one after the other: for a record, whose later parts depend on its counts
  abbrev pub and_next : Format (A × B) Given (wideA + wideB) (max farA (wideA + farB)) (whysA ++ whysB)
  and_next = record {
    read = both_read;
    write = both_bytes;
    Ok = BothOk;
    Known = BothKnown;
    known = pair_known;
    Sized = λ p. F.Sized p.0 × (G p.0).Sized p.1;
    Small = λ p. F.Small p.0 × (G p.0).Small p.1;
    judge = λ p. F.judge p.0 before (G p.0).judge p.1;
    reads = pair_reads;
    writes = pair_writes;
    short = pair_short;
    same = pair_same;
    gives = pair_gives;
    accepts = pair_accepts;
    refuses = pair_refuses;
  }
