-- The places permitted to a kind's job just cut, stored slot by slot.
-- Assumes nothing.
use Prim.Native.Nat.{ℕ, suc, ◌+◌, ◌-◌, ◌<◌, ◌≤◌}
use mathlib.Core.List.{List, ◌++◌, flat_map, reverse}
use mathlib.Core.Logic.{inl, inr}
use mathlib.Core.Path.{◌≡◌, refl, sym, ap, ◌∙◌}
use native.Mathlib.Nat.{zero-add}
use native.Mathlib.Omega.{arith}
use borrow.Author.Tests.{lt-ltb, le-ltb}
use lib.ListN.{length, get_or, set, take, drop, replicate, length-take, length-drop, length-reverse}
use lib.Seq.{sets, length-sets, length-take-le, get_or-take, get_or-drop, ext_get_or}
use Rattle.number.proofs.Steps.{below_or_not}
use Rattle.std.specs.List.{enumerate_from}
use Rattle.std.proofs.lemmas.List.{get_or_default, get_or-reverse}
use Rattle.std.proofs.lemmas.List.FromFn.{length-enumerate_from, get_or-enumerate_from}
use Rattle.fields.specs.Lists.{tabulate}
use Rattle.fields.proofs.Tables.{length_tabulate, tabulate_ext}
use Rattle.queue.specs.declared.Window.{Window}
use Rattle.queue.specs.declared.Queue.{Queue}
use Rattle.queue.specs.Record.{no_window, Valid}
use Rattle.sequencing.specs.Lists.{from, upto}
use Rattle.sequencing.specs.Problem.{Problem}
use Rattle.sequencing.specs.States.{jobs_of, K}
use Rattle.problem.specs.PlaceRule.{earliest, latest}
use Rattle.problem.specs.OfQueue.{problem}
use Rattle.jobs_left.specs.declared.Kind.{Kind}
use Rattle.jobs_left.specs.Kinds.{no_kind}
use Rattle.layout.specs.Prepared.{no_place, by_kind, begin_of, slot_of, earliest_at, latest_at, places_at, kind_of}
use Rattle.layout.specs.Steps.{permitted_places, slot_places, Listed}
use Rattle.layout.proofs.Blocks.{get_d_sets_in, flat_long, sum_slots}
use Rattle.layout.proofs.Positions.{kind_cut, begin_few, all_by_kind, by_kind_at}
use Rattle.layout.proofs.Storing.{tabulated_more, laid_more}

-- ---- one kind

module _ (jobs : List ℕ) (window : Window) (shift : ℕ) (places : List Window) (k : ℕ) where
  -- the slots of the first k numbers left
  abbrev pub placed : List Window
  placed = sets places 0 (tabulate (slot_places jobs window shift) 0 k)

  -- the next one's, where item k is the next job from the last on
  pub placed_more : {item : ℕ × ℕ} → (k < length (enumerate_from 0 (reverse jobs))) × (item ≡ get_or (enumerate_from 0 (reverse jobs)) k item)
      → (x : Window) → x ≡ permitted_places item.1 window shift → set placed item.0 x ≡ sets places 0 (tabulate (slot_places jobs window shift) 0 (k + 1))
  unfolding slot_places
  placed_more {item} h x e =
      let long : length (reverse jobs) ≡ length jobs = length-reverse jobs in
      let few : k < length jobs = omega (arith, h.0, length-enumerate_from 0 (reverse jobs), long) in
      let is : item ≡ (k, get_or jobs (length jobs - 1 - k) 0) =
      h.1 ∙ get_or_default (enumerate_from 0 (reverse jobs)) k item (0, 0) h.0 ∙ get_or-enumerate_from 0 (reverse jobs) k (0, 0) (omega (arith, few, long))
      ∙ rw (zero-add k, get_or-reverse jobs k 0 few) in
      rw is (tabulated_more (slot_places jobs window shift) places k x (e ∙ rw (is, lt-ltb k (length jobs) few)))

  -- with all left there is none
  pub placed_last : k ≡ length (enumerate_from 0 (reverse jobs))
      → set placed (length jobs) no_place ≡ sets places 0 (tabulate (slot_places jobs window shift) 0 (length jobs + 1))
  unfolding slot_places
  placed_last e =
      let all : k ≡ length jobs = e ∙ length-enumerate_from 0 (reverse jobs) ∙ length-reverse jobs in
      rw all (tabulated_more (slot_places jobs window shift) places (length jobs) no_place (rw (le-ltb (length jobs) (length jobs) (omega arith))))

-- ---- the kinds of a queue

-- the slots of a kind
abbrev kind_slots : Queue → ℕ → List Window
kind_slots q L = tabulate (places_at q L) 0 (K (problem q) L + 1)

-- those of the first k kinds are set
abbrev pub slots_of : Queue → List Window → ℕ → List Window
slots_of q places k = sets places 0 (flat_map (kind_slots q) (upto k))

pub slots_none : (q : Queue) (places : List Window) → places ≡ slots_of q places 0
unfolding flat_map from
slots_none q places = refl

-- what is known of the next kind, whose jobs and slots have room
pub record NextKind (q : Queue) (k : ℕ) (kind : Kind) : Type 0 where
  pub here : k < q.kinds
  pub kind_is : kind ≡ kind_of q (k + 1)
  pub jobs_in : kind.begin + kind.count ≤ 60
  pub slots_in : kind.slot + kind.count < 65

module _ {q : Queue} (v : Valid q) {kinds : List Kind} {jobs : List ℕ} (listed : Listed q kinds jobs) where
  abbrev P : Problem
  P = problem q

  pub next_kind : {k : ℕ} → k < length (take q.kinds kinds) → NextKind q k (get_or (take q.kinds kinds) k no_kind)
  next_kind {k} h =
      let few : k < q.kinds = omega (arith, h, length-take q.kinds kinds) in
      let e : k + 1 - 1 ≡ k = omega arith in
      let is : get_or (take q.kinds kinds) k no_kind ≡ kind_of q (k + 1) =
      get_or-take q.kinds kinds k no_kind few ∙ ap (λ i. get_or kinds i no_kind) (sym e) ∙ listed.kinds_are (k + 1) (omega arith) (omega arith) in
      let fits : begin_of P (k + 1) + K P (k + 1) ≤ 60 = begin_few q v (k + 1) (omega arith) (omega arith) in
      record { here = few; kind_is = is; jobs_in = rw is fits; slots_in = rw is (omega (arith, v.kinds)) }

  -- where the kind's jobs stand
  own_jobs : (L : ℕ) → 1 ≤ L → L ≤ q.kinds → take (K P L) (drop (begin_of P L) jobs) ≡ jobs_of P L
  own_jobs L l u =
      let all : length jobs ≡ 60 = ap length listed.jobs_by_kind ∙ length-sets (replicate 60 0) 0 (by_kind P) in
      let at : ℕ = begin_of P L in
      let long : length (take (K P L) (drop at jobs)) ≡ K P L =
      length-take-le (K P L) (drop at jobs) (omega (arith, all, begin_few q v L l u, length-drop at jobs)) in
      ext_get_or 0 (take (K P L) (drop at jobs)) (jobs_of P L) long (λ n h.
      let few : n < K P L = omega (arith, h, long) in
      let here = by_kind_at q v L n l u few in
      get_or-take (K P L) (drop at jobs) n 0 few ∙ get_or-drop at jobs n 0 ∙ ap (λ js. get_or js (at + n) 0) listed.jobs_by_kind
      ∙ get_d_sets_in (replicate 60 0) (by_kind P) (all_by_kind q v) 0 (at + n) here.0 ∙ here.1)

  -- the slots of a kind are the queue's
  slots_are : (L : ℕ) → 1 ≤ L → tabulate (slot_places (jobs_of P L) (get_or q.windows (L - 1) no_window) q.max_shift) 0 (K P L + 1) ≡ kind_slots q L
  unfolding slot_places earliest_at latest_at earliest latest
  slots_are L l =
      tabulate_ext (slot_places (jobs_of P L) (get_or q.windows (L - 1) no_window) q.max_shift) (places_at q L) 0 (K P L + 1)
      (λ n h m. elim (below_or_not n (K P L)) [
        | inl few ↦ (let e : K P L - n ≡ suc (K P L - 1 - n) = omega arith in rw (lt-ltb n (K P L) few, kind_cut q L n l few, e))
        | inr all ↦ rw (le-ltb n (K P L) all)
      ])

  -- and behind those of the kinds before it
  slot_is : (k : ℕ) → slot_of P (k + 1) ≡ length (flat_map (kind_slots q) (upto k))
  unfolding begin_of
  slot_is k =
      let e : k + 1 - 1 ≡ k = omega arith in
      rw e (sym (flat_long (kind_slots q) 1 k ∙ sum_slots (places_at q) (K P) 1 k))

  pub slots_more : {k : ℕ} {kind : Kind} → NextKind q k kind → (places₀ : List Window) → length places₀ ≡ 65
      → {places : List Window} → places ≡ slots_of q places₀ k → {own : List ℕ} → own ≡ take (kind.begin + kind.count - kind.begin) (drop kind.begin jobs)
      → {part : List Window}
      → part ≡ sets (take (65 - kind.slot) (drop kind.slot places)) 0 (tabulate (slot_places own (get_or q.windows k no_window) q.max_shift) 0 (length own + 1))
      → take kind.slot places ++ (part ++ drop (65 - kind.slot) (drop kind.slot places)) ≡ slots_of q places₀ (k + 1)
  slots_more {k} {kind} n places₀ long {places} w {own} o e =
      let d : k + 1 - 1 ≡ k = omega arith in
      let c : kind.begin + kind.count - kind.begin ≡ kind.count = omega arith in
      let is : own ≡ jobs_of P (k + 1) = o ∙ rw (c, n.kind_is) (own_jobs (k + 1) (omega arith) (omega (arith, n.here))) in
      let slots = rw d at (slots_are (k + 1) (omega arith)) in
      let many : kind.count ≡ K P (k + 1) = ap (λ (x : Kind). x.count) n.kind_is in
      let room : kind.slot + length (kind_slots q (k + 1)) ≤ 65 = omega (arith, n.slots_in, many, length_tabulate (places_at q (k + 1)) 0 (K P (k + 1) + 1)) in
      laid_more (kind_slots q) places₀ places k kind.slot 65 w (ap (λ (x : Kind). x.slot) n.kind_is ∙ slot_is k) long room (e ∙ rw (is, slots))
