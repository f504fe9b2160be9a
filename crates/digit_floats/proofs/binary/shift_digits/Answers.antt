use Rattle.std.proofs.Common.{sym, arith}
use Rattle.digit_floats.proofs.WholePart.{none_left, shifted_out}
use Rattle.digit_floats.proofs.binary.shift_digits.Goals as goal

pub returns-then-shift-ge120-clause-value : goal.returns-then-shift-ge120-clause-value
returns-then-shift-ge120-clause-value c =
    sym (shifted_out c.args.digits c.args.shift c.args.more (omega arith) (omega arith))

pub returns-then-shift-ge120-clause-least : goal.returns-then-shift-ge120-clause-least
returns-then-shift-ge120-clause-least c =
    omega (arith, none_left c.args.digits c.args.shift (omega arith) (omega arith))
