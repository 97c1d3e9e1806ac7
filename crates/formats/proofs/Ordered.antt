-- Numbers in an order, each tested after the earlier ones, and one refusal for all of them.
-- Assumes nothing.
use Prim.Native.Nat.{ℕ, ◌+◌, ◌-◌, ◌*◌, ◌^◌, ◌<◌, ◌≤◌}
use mathlib.Core.Path.{◌≡◌, refl, sym, ◌∙◌}
use mathlib.Core.Bool.{Bool, true}
use mathlib.Core.Logic.{◌↔◌}
use mathlib.Core.List.{List, [], ◌∷◌}
use native.Mathlib.Omega.{arith}
use lib.ListN.{length}
use Rattle.refusal.specs.declared.Reason.{Reason}
use Rattle.number.specs.Numbers.{encode}
use Rattle.fields.specs.Fields.{field, encode_all}
use Rattle.fields.specs.Messages.{check}
use Rattle.fields.specs.Orders.{in_order, all_in_order, followed_by}
use Rattle.formats.proofs.Verdicts.{judged_accepts, in_turn_tested}
use Rattle.formats.proofs.Formats.{Format}
use Rattle.formats.proofs.Telling.{retold, rejudged}
use Rattle.formats.proofs.Numbers.{tested}
use Rattle.formats.proofs.Runs.{each_all, all_any, in_turns, run_flat}

module _ {Given : Type 0} (ok : List ℕ → ℕ → Bool) (why : Reason) (w : ℕ) (l : 0 < w)
    (small : Given → (earlier : List ℕ) (v : ℕ) → ok earlier v ≡ true → (v < 128 ^ w) × (v < 128 ^ 3)) (n m : ℕ) (few : Given → n ≤ m) where
  -- the number after the earlier ones
  abbrev pub next : List ℕ → Format ℕ Given w 3 (why ∷ [])
  next earlier = tested 3 (ok earlier) why w (omega arith) l (λ z v e. small z earlier v e)

  -- n of them, as a run
  abbrev pub plain : Format (List ℕ) Given (m * w) (m * w + (3 - w)) (why ∷ [])
  plain = retold (in_turns next followed_by n m few []) (in_order (λ earlier. field 3 (ok earlier) why) followed_by n []) encode_all (λ s at. refl) (run_flat next followed_by encode (λ earlier v. refl) [])

  pub plain_tested : (vs : List ℕ) → plain.judge vs ≡ check (all_in_order ok followed_by [] vs) why
  plain_tested vs = in_turn_tested (λ earlier v. check (ok earlier v) why) ok why followed_by (λ earlier v. refl) [] vs

  pub plain_sized : (vs : List ℕ) → length vs ≡ n → plain.Sized vs
  plain_sized vs k = (k, (each_all followed_by [] (λ v. Unit) vs).1 (all_any vs))

  pub plain_ok : Given → (vs : List ℕ) → plain.Ok vs ↔ ((length vs ≡ n) × (all_in_order ok followed_by [] vs ≡ true))
  plain_ok z vs =
      let test = judged_accepts (all_in_order ok followed_by [] vs) why in (
        λ k. (k.0, test.0 (sym (plain_tested vs) ∙ (plain.accepts z vs (plain_sized vs k.0)).1 k)),
        λ k. (plain.accepts z vs (plain_sized vs k.0)).0 (plain_tested vs ∙ test.1 k.1),
      )

  -- n of them, at most m, judged as one: for an order in which no number stands twice
  abbrev pub ordered : Format (List ℕ) Given (m * w) (m * w + (3 - w)) (why ∷ [])
  ordered = rejudged plain (record {
    Ok = λ vs. (length vs ≡ n) × (all_in_order ok followed_by [] vs ≡ true);
    Known = λ vs. (length vs ≡ n) × (all_in_order ok followed_by [] vs ≡ true);
    known = λ z vs k. k;
    finds = λ z s at vs end e. let r = plain.reads z s at vs end e in ((plain_ok z vs).0 r.0, r.1);
    Sized = λ vs. length vs ≡ n;
    judge = λ vs. check (all_in_order ok followed_by [] vs) why;
    ok_is = plain_ok;
    short = λ z vs k. plain.short z vs ((plain_ok z vs).1 k);
    accepts = λ z vs k. let test = judged_accepts (all_in_order ok followed_by [] vs) why in (λ e. (k, test.0 e), λ o. test.1 o.1);
    sized_is = plain_sized;
    judge_is = λ vs k. sym (plain_tested vs);
  })
