-- Bytes that are written one piece after the other.
use Rattle.std.proofs.Common.{◌≡◌, ℕ, ◌+◌, ◌<◌, ◌≤◌, List, [], ◌∷◌, ◌++◌, length, take, drop, get_or, refl, sym, ap, ◌∙◌, arith, length-append, add-one}
use mathlib.Core.List.{flat_map}
use Rattle.std.proofs.Math.ListN.{length-set}
use Rattle.std.proofs.Math.Seq.{sets, length-sets, drop-cons}
use Rattle.fields.proofs.Parts.{sets_append}
use Rattle.fields.proofs.Tables.{list_part}
use Rattle.number.specs.declared.Output.{Output}
use Rattle.number.specs.Numbers.{encode}
use Rattle.number.specs.Outputs.{HasRoom, Writes}
use Rattle.fields_writer.specs.Pieces.{listed, front_bytes}

-- what a plan begins with is as long whatever its opening
pub front_long : (opening : List ℕ) (goal cost : ℕ)
    → length (front_bytes opening goal cost) ≡ 2 + length (encode 1) + length (encode goal) + length (encode cost)
unfolding front_bytes
front_long opening goal cost = omega (arith, length-append (encode 1 ++ encode goal) (encode cost), length-append (encode 1) (encode goal))

-- what two pieces need, and leave
pub ruleset writing = (length-append, length-set, length-sets, sets_append, front_long)

-- what is listed is the front of the array
pub front_listed : (values : List ℕ) (n : ℕ) → n ≤ length values → take n values ≡ listed values n
front_listed values n few = sym (list_part values n few)

-- a loop over pieces: of the bytes that are to stand from `start` on, `left` is to be written
pub record Writing (bytes : List ℕ) (start : Output) (left : List ℕ) (now : Output) : Type 0 where
  pub same : now.buffer.ghost_name ≡ start.buffer.ghost_name
  pub room : HasRoom left now
  pub ends : start.at + length bytes ≡ now.at + length left
  pub means : sets start.buffer.now start.at bytes ≡ sets now.buffer.now now.at left

module _ {bytes : List ℕ} {start : Output} where
  pub writing_none : HasRoom bytes start → Writing bytes start bytes start
  writing_none room = record { same = refl; room = room; ends = refl; means = refl }

  module _ {left : List ℕ} {now : Output} (w : Writing bytes start left now) where
    -- the next piece
    module _ (xs ys : List ℕ) (e : left ≡ xs ++ ys) where
      pub writing_room : HasRoom xs now
      writing_room = omega (arith, w.room, ap length e, length-append xs ys)

      pub writing_more : (next : Output) → Writes xs now next → Writing bytes start ys next
      writing_more next h = record {
        same = h.0 ∙ w.same;
        room = omega (arith, w.room, h.1, ap length h.2 ∙ length-sets now.buffer.now now.at xs, ap length e, length-append xs ys);
        ends = w.ends ∙ omega (arith, h.1, ap length e, length-append xs ys);
        means = w.means ∙ ap (sets now.buffer.now now.at) e ∙ sets_append xs ys now.buffer.now now.at ∙ rw (h.1, h.2);
      }

    -- nothing is left
    pub writing_done : left ≡ [] → Writes bytes start now
    writing_done e = (w.same, omega (arith, w.ends, ap length e), sym (w.means ∙ ap (sets now.buffer.now now.at) e))

-- the next thing of a list, and those behind it
pub next_item : {A : Type 0} (xs : List A) (i : ℕ) (d x : A) → i < length xs → get_or xs i d ≡ x → drop i xs ≡ x ∷ drop (i + 1) xs
next_item xs i d x h here = rw (drop-cons xs i d h, here, add-one i)

-- .. of the numbers that a list holds
pub next_number : {A : Type 0} (numbers : List A → List ℕ) (more : (x : A) (xs : List A) → numbers (x ∷ xs) ≡ numbers (x ∷ []) ++ numbers xs)
    (xs : List A) (i : ℕ) (x : A) (n : ℕ) → i < length xs → x ≡ get_or xs i x → n ∷ [] ≡ numbers (x ∷ []) → numbers (drop i xs) ≡ n ∷ numbers (drop (i + 1) xs)
next_number numbers more xs i x n h is held = rw (next_item xs i x x h (sym is), more, ← held)

-- .. and its bytes
pub next_bytes : {A : Type 0} (write : A → List ℕ) {xs : List A} {x : A} {more : List A} → xs ≡ x ∷ more → flat_map write xs ≡ write x ++ flat_map write more
unfolding flat_map
next_bytes write e = rw e

-- nothing is left
pub no_bytes : {A : Type 0} (write : A → List ℕ) {xs : List A} → xs ≡ [] → flat_map write xs ≡ []
unfolding flat_map
no_bytes write e = rw e
