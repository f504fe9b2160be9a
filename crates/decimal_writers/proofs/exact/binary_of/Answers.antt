use Rattle.std.proofs.Common.{T, sym, subst}
use Rattle.decimal_writers.proofs.FloatBits.{few, value_low, value_high, no_nan}
use Rattle.decimal_writers.proofs.exact.binary_of.Goals as goal

pub float_to_bits-bits : goal.float_to_bits-bits
float_to_bits-bits c = no_nan c.args.x c.requires

pub returns-then-field-eq0-clause-value : goal.returns-then-field-eq0-clause-value
returns-then-field-eq0-clause-value c =
    value_low c.args.x (subst T (sym c.well_formed.0.1) tt) c.requires c.if-field-eq0.true

pub returns-clause-value : goal.returns-clause-value
returns-clause-value c =
    value_high c.args.x (subst T (sym c.well_formed.0.1) tt) c.requires c.if-field-eq0.false

pub returns-clause-few : goal.returns-clause-few
returns-clause-few c = few c.args.x (subst T (sym c.well_formed.0.1) tt) c.requires
