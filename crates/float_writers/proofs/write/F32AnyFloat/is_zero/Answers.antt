use Rattle.std.proofs.Common.{◌≡◌, refl, sym, subst}
use lib.Dec.{T}
use lib.Ieee.{binary32, of_bits, of_fields, odd}
use Rattle.std.specs.Float.{float_zero}
use Rattle.float_writers.proofs.Written.{zero_size, above_size}
use Rattle.float_writers.proofs.write.F32AnyFloat.is_zero.Goals as goal

zero : of_bits binary32 0 ≡ float_zero
unfolding of_bits of_fields odd
zero = refl

pub returns-clause-zero : goal.returns-clause-zero
returns-clause-zero c =
    zero_size binary32 c.args.self (of_bits binary32 0) (subst T (sym c.well_formed.0.1) tt) zero

pub returns-clause-above : goal.returns-clause-above
returns-clause-above c = above_size c.args.self (of_bits binary32 0) c.requires zero
