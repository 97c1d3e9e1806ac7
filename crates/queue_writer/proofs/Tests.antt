-- A test of a list, asked of one thing after the other.
-- Assumes nothing.
use Prim.Native.Nat.{ℕ, ◌+◌, ◌<◌, ◌≤◌}
use mathlib.Core.Path.{◌≡◌, refl, sym, ap, ◌∙◌}
use mathlib.Core.Bool.{Bool, true, false, ◌&&◌}
use mathlib.Core.List.{List, [], ◌∷◌, ◌++◌}
use native.Mathlib.Omega.{arith}
use native.Mathlib.Nat.{zero-add}
use lib.ListN.{length, get_or}
use Rattle.std.proofs.Math.Bool.{and_assoc}
use Rattle.std.proofs.lemmas.List.Recursion.{and_is}
use Rattle.fields.specs.Fields.{all}
use Rattle.fields.specs.Lists.{tabulate}
use Rattle.fields.proofs.Tables.{length_tabulate, tabulate_at}

-- two lists pass where each does
pub all_append : {A : Type 0} (ok : A → Bool) (xs ys : List A) → all ok (xs ++ ys) ≡ (all ok xs && all ok ys)
unfolding all
all_append ok [] ys = refl
all_append ok (x ∷ xs) ys = rw (all_append ok xs ys, ← and_assoc)

-- r is what `all` answered of things of any type
pub all_is : {A : Type 0} (ok : List A → Bool) → ok [] ≡ true → ((x : A) (xs : List A) → ok (x ∷ xs) ≡ (ok (x ∷ []) && ok xs)) → (xs : List A) (r : Bool)
    → (r ≡ true → (d : A) (i : ℕ) → i < length xs → ok (get_or xs i d ∷ []) ≡ true)
    → (r ≡ false → (0 < length xs) × ((d : A) → (i : ℕ) × (i < length xs) × (ok (get_or xs i d ∷ []) ≡ false))) → r ≡ ok xs
all_is ok none more [] true each some = sym none
all_is ok none more [] false each some = absurd (omega (arith, (some refl).0))
all_is ok none more (x ∷ xs) r each some = and_is ok (λ a. ok (a ∷ [])) none more (x ∷ xs) x r (λ e. each e x) (λ e. (some e).1 x)

-- .. and of rows numbered 0 to n
pub all_rows_is : {A : Type 0} (ok : A → Bool) (row : ℕ → A) (n : ℕ) (r : Bool) → (r ≡ true → (i : ℕ) → i ≤ n → ok (row i) ≡ true)
    → (r ≡ false → (i : ℕ) × (i ≤ n) × (ok (row i) ≡ false)) → r ≡ all ok (tabulate row 0 (n + 1))
unfolding all
all_rows_is ok row n r each some =
    let long = length_tabulate row 0 (n + 1) in
    let rows = tabulate row 0 (n + 1) in
    let at : (i : ℕ) → i ≤ n → get_or rows i (row 0) ≡ row i = λ i h. tabulate_at row (row 0) 0 (n + 1) i (omega arith) ∙ ap row (zero-add i) in
    and_is (all ok) ok refl (λ x xs. refl) rows (row 0) r
    (λ e i h. let few : i ≤ n = omega arith in rw (at i few) (each e i few)) (λ e. let (i, few, out) = some e in (i, omega arith, rw (at i few) out))
