use Rattle.std.proofs.Common.{rules, arith}
use Rattle.digit_values.proofs.Peeks.{peeks}
use Rattle.digit_values.proofs.reading.peek_digit.Goals as goal

pub returns-in_err-peek-clause-peeks : goal.returns-in_err-peek-clause-peeks
returns-in_err-peek-clause-peeks g c =
    peeks (g.met.I.DigitsIter c.lifetimes (search rules)).digit_laws _
    ((g.met.I.Iter c.lifetimes (search rules)).valid_now c.args.iter.now) _ _ _
    c.peek.ensures.settles (grind arith)

pub returns-clause-peeks : goal.returns-clause-peeks
returns-clause-peeks g c =
    peeks (g.met.I.DigitsIter c.lifetimes (search rules)).digit_laws _
    ((g.met.I.Iter c.lifetimes (search rules)).valid_now c.args.iter.now) _ _ _
    c.peek.ensures.settles (grind arith)
