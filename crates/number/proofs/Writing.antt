-- Writing a number group by group: the loop's invariant, and what a turn does to it.
-- Assumes nothing.
use Prim.Native.Nat.{ℕ, ◌+◌, ◌/◌, ◌%◌, ◌<◌, ◌≤◌}
use mathlib.Core.Path.{◌≡◌, refl, sym, ◌∙◌}
use mathlib.Core.List.{List}
use native.Mathlib.Omega.{arith}
use native.Mathlib.Numerals.{add-one}
use lib.ListN.{length, set, length-set}
use lib.Seq.{sets}
use Rattle.number.specs.Numbers.{encode}
use Rattle.number.proofs.Encoding.{encode_small, encode_large, some_byte}

-- before position i with v to come
pub record Writing (buffer₀ : List ℕ) (at value : ℕ) (buffer : List ℕ) (v i : ℕ) : Type 0 where
  pub long : length buffer ≡ length buffer₀
  pub ends : at + length (encode value) ≡ i + length (encode v)
  pub means : sets buffer₀ at (encode value) ≡ sets buffer i (encode v)

pub writing_none : (buffer : List ℕ) (at value : ℕ) → Writing buffer at value buffer value at
writing_none buffer at value = record { long = refl; ends = refl; means = refl }

module _ (buffer₀ : List ℕ) (at value : ℕ) (buffer : List ℕ) (v i : ℕ) (w : Writing buffer₀ at value buffer v i) where
  pub writing_more : 127 < v → Writing buffer₀ at value (set buffer i (v % 128 + 128)) (v / 128) (i + 1)
  writing_more l =
      let e = encode_large v l in
      record {
        long = simp length-set w.long;
        ends = w.ends ∙ rw e (omega arith);
        means = rw (add-one i) (w.means ∙ rw e);
      }

  pub writing_last : v < 128 → (i + 1 ≡ at + length (encode value)) × (set buffer i v ≡ sets buffer₀ at (encode value))
  writing_last l = let e = encode_small v l in (sym (w.ends ∙ rw e (omega arith)), sym (w.means ∙ rw e))

  pub writing_within : at + length (encode value) ≤ length buffer₀ → i < length buffer
  writing_within h = omega (arith, w, some_byte v)
