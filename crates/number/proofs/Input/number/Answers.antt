-- Each return and each turn is a lemma on `Reading`.
use Rattle.std.proofs.Common.{◌≡◌, ◌+◌, ◌-◌, arith, inl, inr, sym, ◌∙◌}
use Rattle.std.proofs.lemmas.Bool.{leb-true, leb-false, lt-leb, le-leb}
use Rattle.number.proofs.Reading.{reading_out, reading_ends, reading_more, reading_zero, reading_last}
use Rattle.number.proofs.Input.number.Goals as goal

pub returns-then-self : goal.returns-then-self
returns-then-self c = (c.loop.invariant.0, rw (← c.loop.invariant.0) (reading_ends _ _ _ _ _ _ _ c.loop.invariant.1 (omega (arith, c.loop-test.true)) c.if-self.true))

pub returns-then-shift-gt0 : goal.returns-then-shift-gt0
returns-then-shift-gt0 c = (
  c.loop.invariant.0,
  rw (← c.loop.invariant.0)
      (reading_zero _ _ _ _ _ _ _ c.loop.invariant.1 (omega (arith, c.loop-test.true)) c.if-self.false c.if-b-eq0.true c.if-shift-gt0.true),
)

-- a last group of 00 is the first
pub returns-then-not-has_more : goal.returns-then-not-has_more
returns-then-not-has_more c =
    let last = leb-false _ _ (sym c.has_more.ensures ∙ c.if-not-has_more.true) in (
      c.loop.invariant.0,
      rw (← c.loop.invariant.0, c.with_group-value.ensures, c.group.ensures.value, lt-leb _ _ last)
          (reading_last _ _ _ _ _ _ _ c.loop.invariant.1 (omega (arith, c.loop-test.true)) c.if-self.false last
          (λ z. elim c.else-b-eq0.either [ inl h ↦ omega (arith, h.1) | inr h ↦ absurd (h z) ])),
    )

pub loop-preserved : goal.loop-preserved
loop-preserved c =
    let more = leb-true _ _ (sym c.has_more.ensures ∙ c.if-not-has_more.false) in
    let seven = rw (le-leb _ _ more) at (c.group.ensures.value) in
    let fewer : c.args.groups - (c.loop.counter + 1) ≡ c.args.groups - c.loop.counter - 1 = omega arith in (
      c.loop.invariant.0,
      rw (c.with_group-value.ensures, c.group.ensures.value, le-leb _ _ more, fewer)
          (reading_more _ _ _ _ _ _ _ c.loop.invariant.1 (omega (arith, c.loop-test.true)) c.if-self.false more (omega (arith, seven, c.group.ensures.small))),
    )

pub returns : goal.returns
returns c = (c.loop.invariant.0, rw (← c.loop.invariant.0) (reading_out _ _ _ _ _ _ _ c.loop.invariant.1 (omega (arith, c.loop-test.false))))
