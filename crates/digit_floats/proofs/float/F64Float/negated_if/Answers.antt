use Rattle.std.proofs.Common.{T, sym, subst}
use Rattle.digit_floats.proofs.Bits.{flipped_64, no_nan_64}
use Rattle.digit_floats.proofs.float.F64Float.negated_if.Goals as goal

pub float_from_bits-result : goal.float_from_bits-result
float_from_bits-result c =
    no_nan_64 c.args.negative c.args.self (subst T (sym c.well_formed.0.1) tt) c.requires.number
    c.from.result c.from.ensures

pub returns : goal.returns
returns c =
    flipped_64 c.args.negative c.args.self (subst T (sym c.well_formed.0.1) tt) c.requires.number
    c.from.result c.from.ensures
