-- Runs: a part so many times, where each time may depend on what the earlier ones found.
-- Assumes nothing.
use Rattle.refusal.specs.Answers.{Verdict, Accepted}
use Rattle.std.specs.Prelude.{Ok, Err}
use Prim.Native.Nat.{ℕ, zero, suc, ◌+◌, ◌-◌, ◌*◌, ◌≤◌}
use mathlib.Core.Path.{◌≡◌, refl, sym, ap, ◌∙◌, subst₂}
use mathlib.Core.Logic.{◌↔◌}
use mathlib.Core.List.{List, [], ◌∷◌, ◌++◌, flat_map, append_assoc}
use native.Mathlib.Omega.{arith}
use native.Mathlib.Nat.{suc-mul, mul-le-mul}
use lib.ListN.{length, take, drop, length-append}
use Rattle.refusal.specs.declared.Reason.{Reason}
use Rattle.number.specs.Readers.{found, refused, Reader, and_then}
use Rattle.number.proofs.Steps.{went_on, found_value, found_next}
use Rattle.fields.specs.Lists.{Bytes}
use Rattle.fields.proofs.Codecs.{Stand, All, stand_none, stand_append, past}
use Rattle.fields.proofs.Local.{and_same}
use Rattle.fields.proofs.Refusing.{Gives, gives_found, gives_then}
use Rattle.fields.specs.Messages.{◌before◌}
use Rattle.fields.specs.Orders.{in_order, in_turn}
use Rattle.formats.proofs.Verdicts.{not_accepted, before_accepts}
use Rattle.formats.proofs.Refusals.{Arises}
use Rattle.formats.proofs.Formats.{Format}

-- something holds of each thing in a list, after what the earlier ones left
abbrev pub InTurn : {S A : Type 0} → (S → A → S) → (S → A → Type 0) → S → List A → Type 0
InTurn step P state [] = Unit
InTurn step P state (a ∷ more) = P state a × InTurn step P (step state a) more

-- where the state makes no difference, each of a list
pub each_all : {S A : Type 0} (step : S → A → S) (state : S) (P : A → Type 0) (xs : List A) → InTurn step (λ _. P) state xs ↔ All P xs
each_all step state P [] = (λ k. k, λ k. k)
each_all step state P (a ∷ more) = let rest = each_all step (step state a) P more in (λ k. (k.0, rest.0 k.1), λ k. (k.0, rest.1 k.1))

-- of numbers any value is sized
pub all_any : {A : Type 0} (xs : List A) → All (λ a. Unit {0}) xs
all_any [] = tt
all_any (a ∷ more) = (tt, all_any more)

module _ {S A Given : Type 0} {wide far : ℕ} {whys : List Reason} (one : S → Format A Given wide far whys) (step : S → A → S) where
  abbrev pub run_bytes : S → List A → List ℕ
  run_bytes state [] = []
  run_bytes state (a ∷ more) = (one state).write a ++ run_bytes (step state a) more

  abbrev pub RunOk : S → List A → Type 0
  RunOk = InTurn step (λ state. (one state).Ok)

  abbrev pub RunKnown : S → List A → Type 0
  RunKnown = InTurn step (λ state. (one state).Known)

  abbrev pub RunSized : S → List A → Type 0
  RunSized = InTurn step (λ state. (one state).Sized)

  abbrev pub RunSmall : S → List A → Type 0
  RunSmall = InTurn step (λ state. (one state).Small)

  -- where the state makes no difference to what is written
  pub run_flat : (write : A → List ℕ) → ((state : S) (a : A) → (one state).write a ≡ write a) → (state : S) (xs : List A) → flat_map write xs ≡ run_bytes state xs
  unfolding flat_map
  run_flat write h state [] = refl
  run_flat write h state (a ∷ more) = rw (h state a) (ap (λ (l : List ℕ). write a ++ l) (run_flat write h (step state a) more))

  abbrev pub run : ℕ → S → Reader (List A)
  run = in_order (λ state. (one state).read) step

  -- n found, in at most the bytes of m
  abbrev pub RunFound : (n m : ℕ) → S → List ℕ → ℕ → List A → ℕ → Type 0
  RunFound n m state s at xs end =
      ((length xs ≡ n) × RunKnown state xs) × (end ≤ at + m * wide)
      × (Bytes s → Stand s at (run_bytes state xs) end × ((length xs ≡ n) × RunOk state xs))

  module _ (z : Given) where
    pub run_known : (state : S) (xs : List A) → RunOk state xs → RunKnown state xs
    run_known state [] k = tt
    run_known state (a ∷ more) k = ((one state).known z a k.0, run_known (step state a) more k.1)

    pub run_reads : (n : ℕ) (state : S) (s : List ℕ) (at : ℕ) (xs : List A) (end : ℕ) → run n state s at ≡ found xs end
        → RunFound n n state s at xs end
    unfolding in_order
    run_reads zero state s at xs end e =
        subst₂ (RunFound 0 0 state s at) (found_value [] xs at end e) (found_next [] xs at end e)
        ((refl, tt), omega arith, λ y. (stand_none s at, (refl, tt)))
    run_reads (suc n) state s at xs end e =
        let (a, i, f, p) = went_on ((one state).read s at) (λ a m. and_then (run n (step state a) s m) (λ more l. found (a ∷ more) l)) xs end e in
        let (more, l, g, q) = went_on (run n (step state a) s i) (λ more l. found (a ∷ more) l) xs end p in
        let (known, near, stands) = (one state).reads z s at a i f in
        let (known_more, near-more, stands-more) = run_reads n (step state a) s i more l g in
        subst₂ (RunFound (suc n) (suc n) state s at) (found_value (a ∷ more) xs l end q) (found_next (a ∷ more) xs l end q) (
          (ap suc known_more.0, (known, known_more.1)),
          rw suc-mul (omega arith),
          λ y.
              let (x, ok) = stands y in
              let (u, oks) = stands-more y in
              (stand_append s at ((one state).write a) i (run_bytes (step state a) more) l x u, (ap suc oks.0, (ok, oks.1))),
        )

    pub run_writes : (n : ℕ) (state : S) (s : List ℕ) (at : ℕ) (xs : List A) (rest : List ℕ) → (length xs ≡ n) × RunOk state xs
        → drop at s ≡ run_bytes state xs ++ rest → run n state s at ≡ found xs (at + length (run_bytes state xs))
    unfolding in_order
    run_writes zero state s at [] rest k e = ap (found []) (omega arith)
    run_writes zero state s at (a ∷ xs) rest k e = absurd (omega (arith, k.0))
    run_writes (suc n) state s at [] rest k e = absurd (omega (arith, k.0))
    run_writes (suc n) state s at (a ∷ xs) rest k e =
        let X = (one state).write a in
        let Y = run_bytes (step state a) xs in
        let d = e ∙ append_assoc X Y rest in
        rw (
          (one state).writes z s at a (Y ++ rest) k.1.0 d,
          run_writes n (step state a) s (at + length X) xs rest (omega (arith, k.0), k.1.1) (past s at X (Y ++ rest) d),
        )
        (ap (found (a ∷ xs)) (omega (arith, length-append X Y)))

    run_short : (state : S) (xs : List A) → RunOk state xs → length (run_bytes state xs) ≤ length xs * wide
    run_short state [] k = omega arith
    run_short state (a ∷ more) k = rw (length-append, suc-mul) (omega (arith, (one state).short z a k.0, run_short (step state a) more k.1))

    run_same : (n : ℕ) (state : S) (s : List ℕ) (at m : ℕ) → at + n * wide + far ≤ m + wide → run n state (take m s) at ≡ run n state s at
    unfolding in_order
    run_same zero state s at m h = refl
    run_same (suc n) state s at m h =
        let k : at + (n * wide + wide) + far ≤ m + wide = rw (suc-mul n wide) at h in
        and_same ((one state).read (take m s) at) ((one state).read s at) _ _ ((one state).same z s at m (omega arith))
        (λ a i e. and_same (run n (step state a) (take m s) i) (run n (step state a) s i) _ _
        (run_same n (step state a) s i m (omega (arith, ((one state).reads z s at a i e).1))) (λ more l f. refl))

    pub run_accepts : (state : S) (xs : List A) → RunSized state xs → (in_turn (λ state. (one state).judge) step state xs ≡ Accepted) ↔ RunOk state xs
    unfolding in_turn
    run_accepts state [] n = (λ e. tt, λ k. refl)
    run_accepts state (a ∷ more) n =
        let ands = before_accepts ((one state).judge a) (in_turn (λ state. (one state).judge) step (step state a) more) in
        let here = (one state).accepts z a n.0 in
        let there = run_accepts (step state a) more n.1 in
        (λ e. (here.0 (ands.0 e).0, there.0 (ands.0 e).1), λ k. ands.1 (here.1 k.0, there.1 k.1))

    -- the first of a run, then the rest of it
    step_refuses : (n : ℕ) (state : S) (s : List ℕ) (at : ℕ) (a : A) (more : List A) (rest : List ℕ) (r : Reason) (v : Verdict) → (one state).judge a ≡ v → (one state).Sized a → (one state).Small a
        → drop at s ≡ (one state).write a ++ (run_bytes (step state a) more ++ rest) → v before in_turn (λ state. (one state).judge) step (step state a) more ≡ Err r
        → ((i : ℕ) → drop i s ≡ run_bytes (step state a) more ++ rest → in_turn (λ state. (one state).judge) step (step state a) more ≡ Err r → run n (step state a) s i ≡ refused r)
        → run (suc n) state s at ≡ refused r
    unfolding in_order
    step_refuses n state s at a more rest r (Ok tt) v m k d j later =
        let X = (one state).write a in
        let Y = run_bytes (step state a) more ++ rest in
        rw ((one state).writes z s at a Y (((one state).accepts z a m).0 v) d, later (at + length X) (past s at X Y d) j)
    step_refuses n state s at a more rest r (Err q) v m k d j later = rw ((one state).refuses z s at a (run_bytes (step state a) more ++ rest) r m k d (v ∙ j))

    pub run_refuses : (n : ℕ) (state : S) (s : List ℕ) (at : ℕ) (xs : List A) (rest : List ℕ) (r : Reason) → length xs ≡ n → RunSized state xs → RunSmall state xs
        → drop at s ≡ run_bytes state xs ++ rest → in_turn (λ state. (one state).judge) step state xs ≡ Err r → run n state s at ≡ refused r
    unfolding in_turn
    run_refuses zero state s at [] rest r long m k e j = not_accepted r (sym j)
    run_refuses zero state s at (a ∷ more) rest r long m k e j = absurd (omega arith)
    run_refuses (suc n) state s at [] rest r long m k e j = absurd (omega arith)
    run_refuses (suc n) state s at (a ∷ more) rest r long m k e j =
        step_refuses n state s at a more rest r ((one state).judge a) refl m.0 k.0 (e ∙ append_assoc ((one state).write a) (run_bytes (step state a) more) rest) j
        (λ i d q. run_refuses n (step state a) s i more rest r (omega arith) m.1 k.1 d q)

  pub run_gives : (n : ℕ) (state : S) (s : List ℕ) (at : ℕ) → Gives (Arises whys) (run n state s at)
  unfolding in_order
  run_gives zero state s at = gives_found (Arises whys) [] at
  run_gives (suc n) state s at =
      gives_then (Arises whys) ((one state).read s at) _ ((one state).gives s at)
      (λ a i. gives_then (Arises whys) (run n (step state a) s i) _ (run_gives n (step state a) s i) (λ more k. gives_found (Arises whys) (a ∷ more) k))

  -- of at most m
  module _ (n m : ℕ) (few : n ≤ m) (z : Given) (state : S) where
    pub run_most : (xs : List A) → (length xs ≡ n) × RunOk state xs → length (run_bytes state xs) ≤ m * wide
    run_most xs k = omega (arith, run_short z state xs k.1, k.0, mul-le-mul {n₁ = length xs} {m₁ = wide} {n₂ = m} {m₂ = wide} (omega (arith, k.0)) (omega arith))

    pub run_found : (s : List ℕ) (at : ℕ) (xs : List A) (end : ℕ) → run n state s at ≡ found xs end → RunFound n m state s at xs end
    run_found s at xs end e =
        let (known, near, stands) = run_reads z n state s at xs end e in
        (known, omega (arith, mul-le-mul {n₁ = n} {m₁ = wide} {n₂ = m} {m₂ = wide} few (omega arith)), stands)

    pub run_near : (s : List ℕ) (at i : ℕ) → at + (m * wide + (far - wide)) ≤ i → run n state (take i s) at ≡ run n state s at
    run_near s at i h = run_same z n state s at i (omega (arith, mul-le-mul {n₁ = n} {m₁ = wide} {n₂ = m} {m₂ = wide} few (omega arith)))

  -- n times, at most m: for a run in which each part depends on the earlier ones
  abbrev pub in_turns : (n m : ℕ) → (Given → n ≤ m) → S → Format (List A) Given (m * wide) (m * wide + (far - wide)) whys
  in_turns n m few state = record {
    read = run n state;
    write = run_bytes state;
    Ok = λ xs. (length xs ≡ n) × RunOk state xs;
    Known = λ xs. (length xs ≡ n) × RunKnown state xs;
    known = λ z xs k. (k.0, run_known z state xs k.1);
    Sized = λ xs. (length xs ≡ n) × RunSized state xs;
    Small = RunSmall state;
    judge = in_turn (λ state. (one state).judge) step state;
    reads = λ z. run_found n m (few z) z state;
    writes = λ z. run_writes z n state;
    short = λ z. run_most n m (few z) z state;
    same = λ z. run_near n m (few z) z state;
    gives = run_gives n state;
    accepts = λ z xs k. let a = run_accepts z state xs k.1 in (λ e. (k.0, a.0 e), λ o. a.1 o.1);
    refuses = λ z s at xs rest r m k e j. run_refuses z n state s at xs rest r m.0 m.1 k e j;
  }
