-- Numbers as formats: any number, one that passes a test, one of low to high.
-- Assumes nothing.
use Prim.Native.Nat.{ℕ, ◌^◌, ◌<◌, ◌≤◌}
use mathlib.Core.Path.{◌≡◌, refl, sym, ◌∙◌}
use mathlib.Core.Bool.{Bool, true}
use mathlib.Core.Logic.{inl, inr}
use mathlib.Core.List.{List, [], ◌∷◌}
use native.Mathlib.Omega.{arith}
use lib.Dec.{ltb}
use lib.ListN.{take}
use borrow.Author.Tests.{lt-ltb, ltb-true}
use Rattle.refusal.specs.declared.Reason.{Reason}
use Rattle.refusal.specs.declared.Reason.TheVariants.{Groups}
use Rattle.number.specs.Numbers.{number, encode}
use Rattle.number.proofs.Encoding.{length_encode}
use Rattle.fields.specs.Fields.{field, within}
use Rattle.fields.proofs.Judged.{within_true, true_within, field_found}
use Rattle.fields.proofs.Codecs.{number_codec, field_codec}
use Rattle.fields.proofs.RoundTrip.{number_written, number_ends}
use Rattle.fields.proofs.Local.{and_same, number_same}
use Rattle.fields.proofs.Refusing.{Gives, gives_judged, gives_then, gives_number}
use Rattle.fields.specs.Messages.{check}
use Rattle.formats.proofs.Verdicts.{not_accepted, judged_accepts, judged_refuses}
use Rattle.formats.proofs.Refusals.{Arises}
use Rattle.formats.proofs.Formats.{Format}
use Rattle.formats.proofs.Telling.{rejudged}

-- any number of at most g groups, for one that is not judged by itself; a larger one cannot be written: 3
abbrev pub any_number : {Given : Type 0} (g : ℕ) → 0 < g → Format ℕ Given g g []
any_number g h = record {
  read = number g;
  write = encode;
  Ok = λ v. v < 128 ^ g;
  Known = λ v. Unit;
  known = λ _ v k. tt;
  Sized = λ v. Unit;
  Small = λ v. v < 128 ^ g;
  judge = λ v. check (ltb v (128 ^ g)) Groups;
  reads = λ _ s at v n e. (tt, (number_ends g s at v n e).0, λ y. (number_codec g h).reads s at v n y e);
  writes = λ _. (number_codec g h).writes;
  short = λ _ v k. length_encode g v h k;
  same = λ _ s at m l. number_same g s at m l;
  gives = λ s at. gives_number (Arises []) (inl refl) (inr refl) g s at;
  accepts = λ _ v _. (λ e. ltb-true v (128 ^ g) ((judged_accepts (ltb v (128 ^ g)) Groups).0 e), λ k. (judged_accepts (ltb v (128 ^ g)) Groups).1 (lt-ltb v (128 ^ g) k));
  refuses = λ _ s at v rest r _ k e j. not_accepted r (sym j ∙ (judged_accepts (ltb v (128 ^ g)) Groups).1 (lt-ltb v (128 ^ g) k));
}

pub gives_field : (g : ℕ) (ok : ℕ → Bool) (why : Reason) (s : List ℕ) (at : ℕ) → Gives (Arises (why ∷ [])) (field g ok why s at)
gives_field g ok why s at =
    gives_then (Arises (why ∷ [])) (number g s at) _ (gives_number (Arises (why ∷ [])) (inr (inl refl)) (inr (inr refl)) g s at)
    (λ v n. gives_judged (Arises (why ∷ [])) (ok v) v n why (inl refl))

-- a number that passes a test, for one judged as it is read; what passes has at most w groups
abbrev pub tested : {Given : Type 0} (g : ℕ) (ok : ℕ → Bool) (why : Reason) (w : ℕ) → 0 < g → 0 < w
    → (Given → (v : ℕ) → ok v ≡ true → (v < 128 ^ w) × (v < 128 ^ g)) → Format ℕ Given w g (why ∷ [])
tested g ok why w h l small = record {
  read = field g ok why;
  write = encode;
  Ok = λ v. ok v ≡ true;
  Known = λ v. ok v ≡ true;
  known = λ z v k. k;
  Sized = λ v. Unit;
  Small = λ v. v < 128 ^ g;
  judge = λ v. check (ok v) why;
  reads = λ z s at v n e.
      let (f, t) = field_found g ok why s at v n e in
      (t, (number_ends g s at v n f).1 w l (small z v t).0, λ y. let r = (field_codec g ok why h).reads s at v n y e in (r.0, r.1.1));
  writes = λ z s at v rest k e. (field_codec g ok why h).writes s at v rest ((small z v k).1, k) e;
  short = λ z v k. length_encode w v l (small z v k).0;
  same = λ z s at m k. and_same (number g (take m s) at) (number g s at) _ _ (number_same g s at m k) (λ v n e. refl);
  gives = gives_field g ok why;
  accepts = λ z v _. judged_accepts (ok v) why;
  refuses = λ z s at v rest r _ k e j. let w = judged_refuses (ok v) why r j in rw (number_written g s at v rest h k e, w.0, w.1);
}

-- a number of low to high, in at most w of 3 groups: the test of most fields
abbrev pub bounded : {Given : Type 0} (low high : ℕ) (why : Reason) (w : ℕ) → 0 < w → (Given → (high < 128 ^ w) × (high < 128 ^ 3)) → Format ℕ Given w 3 (why ∷ [])
bounded low high why w l h =
    let F = tested 3 (within low high) why w (omega arith) l
    (λ z v e. let b = within_true low high v e in let k = h z in (omega arith, omega arith)) in
    rejudged F (record {
      Ok = λ v. (low ≤ v) × (v ≤ high);
      Known = λ v. (low ≤ v) × (v ≤ high);
      known = λ z v k. k;
      finds = λ z s at v n e. let r = F.reads z s at v n e in (within_true low high v r.0, r.1);
      Sized = λ v. Unit;
      judge = λ v. check (within low high v) why;
      ok_is = λ z v. (λ e. within_true low high v e, λ b. true_within low high v b.0 b.1);
      short = λ z v b. let k = h z in length_encode w v l (omega arith);
      accepts = λ z v _. (
        λ e. within_true low high v ((judged_accepts (within low high v) why).0 e),
        λ b. (judged_accepts (within low high v) why).1 (true_within low high v b.0 b.1),
      );
      sized_is = λ v n. n;
      judge_is = λ v k. refl;
    })

-- .. in one byte: counts, kinds and places
abbrev pub one_byte : {Given : Type 0} (low high : ℕ) (why : Reason) → (Given → high < 128) → Format ℕ Given 1 3 (why ∷ [])
one_byte low high why h = bounded low high why 1 (omega arith) (λ z. let k = h z in (omega arith, omega arith))
