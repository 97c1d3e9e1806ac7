-- A format: one description of a part of a message, from which every law of its reader and its writer follows.
-- Assumes nothing.
use Rattle.refusal.specs.Answers.{Verdict, Accepted}
use Rattle.std.specs.Prelude.{Err}
use Prim.Native.Nat.{ℕ, ◌+◌, ◌≤◌}
use mathlib.Core.Path.{◌≡◌}
use mathlib.Core.Logic.{◌↔◌}
use mathlib.Core.List.{List, ◌++◌}
use lib.ListN.{length, take, drop}
use Rattle.refusal.specs.declared.Reason.{Reason}
use Rattle.number.specs.Readers.{found, refused, Reader}
use Rattle.fields.specs.Lists.{Bytes}
use Rattle.fields.proofs.Codecs.{Stand}
use Rattle.fields.proofs.Refusing.{Gives}
use Rattle.formats.proofs.Refusals.{Arises}

-- A part of a message that holds an A, in both directions. `Given` is what is known of the numbers before it, on which it may depend.
-- A value has at most `wide` bytes, `far` bytes from where it begins decide what is found, and `whys` are the refusals beside 2 and 3.
pub record Format (A Given : Type 0) (wide far : ℕ) (whys : List Reason) : Type 1 where
  -- the reader, the writer, and the writer's verdict
  pub read : Reader A
  pub write : A → List ℕ
  pub judge : A → Verdict
  -- the values that can be written, and what is known of a value that was found, in bytes or in any numbers
  pub Ok : A → Type 0
  pub Known : A → Type 0
  pub known : Given → (a : A) → Ok a → Known a
  -- those with as many elements as their counts say
  pub Sized : A → Type 0
  -- those whose numbers have no more groups than they may
  pub Small : A → Type 0
  -- what was found, and where it ends; and in bytes it stands there as it is written
  pub reads : Given → (s : List ℕ) (at : ℕ) (a : A) (n : ℕ) → read s at ≡ found a n
      → Known a × (n ≤ at + wide) × (Bytes s → Stand s at (write a) n × Ok a)
  -- what is written is found
  pub writes : Given → (s : List ℕ) (at : ℕ) (a : A) (rest : List ℕ) → Ok a → drop at s ≡ write a ++ rest → read s at ≡ found a (at + length (write a))
  pub short : Given → (a : A) → Ok a → length (write a) ≤ wide
  -- bytes further on than `far` make no difference
  pub same : Given → (s : List ℕ) (at m : ℕ) → at + far ≤ m → read (take m s) at ≡ read s at
  -- whatever was given: a refusal comes from a step
  pub gives : (s : List ℕ) (at : ℕ) → Gives (Arises whys) (read s at)
  -- the verdict accepts what can be read
  pub accepts : Given → (a : A) → Sized a → (judge a ≡ Accepted) ↔ Ok a
  -- and refuses any other with the refusal that its bytes get
  pub refuses : Given → (s : List ℕ) (at : ℕ) (a : A) (rest : List ℕ) (r : Reason) → Sized a → Small a → drop at s ≡ write a ++ rest → judge a ≡ Err r → read s at ≡ refused r
