use Rattle.std.proofs.Common.{sym, ◌∙◌, arith, inl, inr}
use Rattle.std.proofs.lemmas.Bool.{cases_lt}
use Rattle.digit_amounts.proofs.Faults.{none_read, passes_other, passes_place, passes_zero, stops_place, stops_last}
use Rattle.digit_amounts.proofs.scaled.count_fitting.Goals as goal
use Rattle.digit_amounts.proofs.scaled.count_fitting.Goals.{then-is_ascii_digit+in-Some, else-is_ascii_digit}

pub loop-at-init : goal.loop-at-init
loop-at-init c = none_read _ _ _ _ c.requires.fits

pub returns-in-None-clause-is : goal.returns-in-None-clause-is
returns-in-None-clause-is c =
    let i = c.loop-at in
    let digit = sym c.is_ascii_digit.ensures.value ∙ c.if-is_ascii_digit.true in
    elim (cases_lt 0 i.left) [
      | inl some ↦ stops_place _ _ _ _ i.value i.left i.at i.invariant (omega arith) digit some
          (c.in-None.ensures.place some)
      | inr none ↦ stops_last _ _ _ _ i.value i.left i.at i.invariant (omega arith) digit
          (omega (arith, none)) (c.in-None.ensures.no_place (omega (arith, none)))
    ]

pub loop-at-preserved : goal.loop-at-preserved
loop-at-preserved c =
    let i = c.loop-at in
    elim c.if-is_ascii_digit.branch [
      | then-is_ascii_digit+in-Some w ↦
          let digit = sym c.is_ascii_digit.ensures.value ∙ w.if-is_ascii_digit.true in
          rw (w.value-is, w.left-is, w.saturating_sub-left.ensures)
          (elim (cases_lt 0 i.left) [
            | inl some ↦
                let place = w.in-Some.ensures.place some in
                passes_place _ _ _ _ i.value i.left i.at i.invariant (omega arith) digit some _
                place.0 (rw place.0 place.1)
            | inr none ↦
                let last = w.in-Some.ensures.no_place (omega (arith, none)) in
                rw last.0
                (passes_zero _ _ _ _ i.value i.left i.at i.invariant (omega arith) digit
                (omega (arith, none)) last.1)
          ])
      | else-is_ascii_digit w ↦
          rw (w.value-is, w.left-is)
          (passes_other _ _ _ _ i.value i.left i.at i.invariant (omega arith)
          (sym c.is_ascii_digit.ensures.value ∙ w.if-is_ascii_digit.false))
    ]
