use Rattle.std.proofs.Common.{length, sym, ap, arith}
use Rattle.digit_writers.proofs.AmountParts.{fraction_length, fraction_none}
use Rattle.digit_writers.proofs.amounts.count_fraction.Goals as goal

pub returns-then-places-eq0-clause-is : goal.returns-then-places-eq0-clause-is
returns-then-places-eq0-clause-is c =
    sym (ap length (fraction_none c.args.point c.args.places c.args.n c.if-places-eq0.true))

pub returns-else-places-eq0-clause-is : goal.returns-else-places-eq0-clause-is
returns-else-places-eq0-clause-is c =
    sym (fraction_length c.args.point c.args.places c.args.n (omega (arith, c.if-places-eq0.false)))
