use Rattle.std.proofs.Common.{arith}
use lib.Ieee.{of_bits}
use Rattle.digit_floats.specs.declared.powers.TheConstants.{TENS_F64}
use Rattle.digit_floats.proofs.Tens.{ten_at}
use Rattle.digit_floats.proofs.powers.ten_to_f64.Goals as goal

pub returns : goal.returns
unfolding of_bits
returns c = ten_at TENS_F64 c.args.k _ tt (omega arith)
