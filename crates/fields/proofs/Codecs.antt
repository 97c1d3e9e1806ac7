-- A reader and a writer of one thing: writing what was read gives the bytes read, reading what was written gives the thing.
-- Assumes nothing.
use Prim.Native.Nat.{ℕ, ◌+◌, ◌^◌, ◌<◌}
use mathlib.Core.Path.{◌≡◌, refl, sym, ap, ◌∙◌}
use mathlib.Core.Bool.{Bool, true}
use mathlib.Core.List.{List, [], ◌∷◌, ◌++◌, append_assoc}
use native.Mathlib.Omega.{arith}
use lib.ListN.{length, drop, length-append}
use lib.Seq.{drop-drop, drop-append_seam}
use Rattle.refusal.specs.declared.Reason.{Reason}
use Rattle.number.specs.Readers.{found, Reader}
use Rattle.number.specs.Numbers.{number, encode}
use Rattle.fields.proofs.RoundTrip.{number_written, number_read}
use Rattle.fields.specs.Lists.{Bytes}
use Rattle.fields.specs.Fields.{field}
use Rattle.fields.proofs.Judged.{field_found, found_field}

-- from position at to position n stand these bytes and no others
pub record Stand (s : List ℕ) (at : ℕ) (bytes : List ℕ) (n : ℕ) : Type 0 where
  pub here : drop at s ≡ bytes ++ drop n s
  pub next : n ≡ at + length bytes

abbrev pub All {ℓ} : {A : Type 0} → (A → Type ℓ) → List A → Type ℓ
All P [] = Unit
All P (a ∷ xs) = P a × All P xs

pub record Codec {A : Type 0} (one : Reader A) (write : A → List ℕ) (Ok : A → Type 0) : Type 0 where
  pub reads : (s : List ℕ) (at : ℕ) (a : A) (n : ℕ) → Bytes s → one s at ≡ found a n → Stand s at (write a) n × Ok a
  pub writes : (s : List ℕ) (at : ℕ) (a : A) (rest : List ℕ) → Ok a → drop at s ≡ write a ++ rest → one s at ≡ found a (at + length (write a))

-- ---- what stands one after the other

pub stand_none : (s : List ℕ) (at : ℕ) → Stand s at [] at
stand_none s at = record { here = refl; next = omega arith }

pub stand_append : (s : List ℕ) (at : ℕ) (xs : List ℕ) (m : ℕ) (ys : List ℕ) (n : ℕ) → Stand s at xs m → Stand s m ys n → Stand s at (xs ++ ys) n
stand_append s at xs m ys n a b = record {
  here = a.here ∙ ap (λ (l : List ℕ). xs ++ l) b.here ∙ sym (append_assoc xs ys (drop n s));
  next = omega (arith, a.next, b.next, length-append xs ys);
}

pub past : (s : List ℕ) (at : ℕ) (xs rest : List ℕ) → drop at s ≡ xs ++ rest → drop (at + length xs) s ≡ rest
past s at xs rest e = sym (drop-drop (length xs) at s) ∙ ap (drop (length xs)) e ∙ drop-append_seam xs rest

-- ---- numbers, judged numbers, runs

pub number_codec : (g : ℕ) → 0 < g → Codec (number g) encode (λ v. v < 128 ^ g)
number_codec g h = record {
  reads = λ s at v n b e. let r = number_read g s at v n b e in (record { here = r.bytes; next = r.next }, r.small);
  writes = λ s at v rest k e. number_written g s at v rest h k e;
}

pub field_codec : (g : ℕ) (ok : ℕ → Bool) (why : Reason) → 0 < g → Codec (field g ok why) encode (λ v. (v < 128 ^ g) × (ok v ≡ true))
field_codec g ok why h = record {
  reads = λ s at v n b e.
      let f = field_found g ok why s at v n e in
      let r = number_read g s at v n b f.0 in
      (record { here = r.bytes; next = r.next }, (r.small, f.1));
  writes = λ s at v rest k e. found_field g ok why s at v (at + length (encode v)) (number_written g s at v rest h k.0 e) k.1;
}

pub all_map : {A : Type 0} (P Q : A → Type 0) (xs : List A) → ((a : A) → P a → Q a) → All P xs → All Q xs
all_map P Q [] f h = tt
all_map P Q (a ∷ xs) f h = (f a h.0, all_map P Q xs f h.1)
