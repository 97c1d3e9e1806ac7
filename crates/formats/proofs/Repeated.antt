-- A part so many times, each by itself, and one refusal for all of them.
-- Assumes nothing.
use Prim.Native.Nat.{ℕ, ◌+◌, ◌-◌, ◌*◌, ◌^◌, ◌<◌, ◌≤◌}
use mathlib.Core.Path.{◌≡◌, refl, sym, ap, ◌∙◌}
use mathlib.Core.Bool.{Bool}
use mathlib.Core.List.{List, [], ◌∷◌, flat_map}
use lib.ListN.{length}
use Rattle.refusal.specs.declared.Reason.{Reason}
use Rattle.number.specs.Readers.{times}
use Rattle.fields.specs.Fields.{within, all}
use Rattle.fields.specs.Messages.{check}
use Rattle.fields.specs.Orders.{in_turn}
use Rattle.fields.proofs.Codecs.{All, all_map}
use Rattle.fields.proofs.Orders.{kept, times_in_order, all_in_order_lem}
use Rattle.formats.proofs.Verdicts.{in_turn_tested}
use Rattle.formats.proofs.Formats.{Format}
use Rattle.formats.proofs.Telling.{retold, rejudged}
use Rattle.formats.proofs.Numbers.{bounded}
use Rattle.formats.proofs.Runs.{each_all, in_turns, run_flat, run_most, run_accepts}

module _ {A Given : Type 0} {wide far : ℕ} {whys : List Reason} (F : Format A Given wide far whys) (ok : A → Bool) (why : Reason) (is : (a : A) → F.judge a ≡ check (ok a) why) where
  abbrev pub each : Unit {0} → Format A Given wide far whys
  each state = F

  pub each_tested : (xs : List A) → in_turn (λ _. F.judge) kept tt xs ≡ check (all ok xs) why
  each_tested xs = in_turn_tested (λ _. F.judge) (λ _. ok) why kept (λ _. is) tt xs ∙ ap (λ (b : Bool). check b why) (sym (all_in_order_lem ok xs))

  -- n times, at most m: for tables, where each entry has the same test
  abbrev pub alike : (n m : ℕ) → (Given → n ≤ m) → Format (List A) Given (m * wide) (m * wide + (far - wide)) whys
  alike n m few =
      let flat = run_flat each kept F.write (λ _ a. refl) tt in
      let run = retold (in_turns each kept n m few tt) (times n F.read) (flat_map F.write) (times_in_order F.read n) flat in
      rejudged run (record {
        Ok = λ xs. (length xs ≡ n) × All F.Ok xs;
        Known = λ xs. (length xs ≡ n) × All F.Known xs;
        known = λ z xs k. (k.0, all_map F.Ok F.Known xs (F.known z) k.1);
        finds = λ z s at xs end e. let r = run.reads z s at xs end e in ((r.0.0, (each_all kept tt F.Known xs).0 r.0.1), r.1);
        Sized = λ xs. (length xs ≡ n) × All F.Sized xs;
        judge = λ xs. check (all ok xs) why;
        ok_is = λ z xs. (λ k. (k.0, (each_all kept tt F.Ok xs).0 k.1), λ k. (k.0, (each_all kept tt F.Ok xs).1 k.1));
        short = λ z xs k. rw (run_flat each kept F.write (λ _ a. refl) tt xs) (run_most each kept n m (few z) z tt xs (k.0, (each_all kept tt F.Ok xs).1 k.1));
        accepts = λ z xs k.
            let a = run_accepts each kept z tt xs ((each_all kept tt F.Sized xs).1 k.1) in
            (λ e. (k.0, (each_all kept tt F.Ok xs).0 (a.0 (each_tested xs ∙ e))), λ o. sym (each_tested xs) ∙ a.1 ((each_all kept tt F.Ok xs).1 o.1));
        sized_is = λ xs k. (k.0, (each_all kept tt F.Sized xs).1 k.1);
        judge_is = λ xs k. sym (each_tested xs);
      })

-- n numbers of low to high, at most m, each in at most w of 3 groups
abbrev pub numbers : {Given : Type 0} (n m : ℕ) → (Given → n ≤ m) → (low high : ℕ) (why : Reason) (w : ℕ) → 0 < w → (Given → (high < 128 ^ w) × (high < 128 ^ 3))
    → Format (List ℕ) Given (m * w) (m * w + (3 - w)) (why ∷ [])
numbers n m few low high why w l h = alike (bounded low high why w l h) (within low high) why (λ v. refl) n m few
