use Rattle.std.proofs.Common.{rules, ap, sym, ◌∙◌, refl, ◌<◌}
use Rattle.digit_values.proofs.Peeks.{peeks}
use Rattle.digit_values.proofs.reading.peek_is_digit.Goals as goal

pub returns-in-Some-clause-peeks : goal.returns-in-Some-clause-peeks
returns-in-Some-clause-peeks g c = λ p same.
    let laws = (g.met.I.DigitsIter c.lifetimes (search rules)).digit_laws in
    let v = (g.met.I.Iter c.lifetimes (search rules)).valid_now c.args.iter.now in
    let l : c.in-Some.byte.now < 256 = search rules in
    peeks laws _ v p _ _ c.peek.ensures.settles
    (rw (← c.peek.ensures.byte, c.in-Some.is) (c.is_digit.ensures
    ∙ ap (λ m. g.I.DigitsIter.digit m c.in-Some.byte.now) c.peek.ensures.settles
    ∙ laws.settled_digit _ _ v l ∙ sym (same _ l)))

pub returns-in-None-clause-peeks : goal.returns-in-None-clause-peeks
returns-in-None-clause-peeks g c = λ p same.
    let laws = (g.met.I.DigitsIter c.lifetimes (search rules)).digit_laws in
    let v = (g.met.I.Iter c.lifetimes (search rules)).valid_now c.args.iter.now in
    peeks laws _ v p _ _ c.peek.ensures.settles
    (rw (← c.peek.ensures.byte, c.in-None.is) refl)
