use Rattle.std.proofs.Common.{arith}
use Rattle.digit_floats.proofs.HexDigits.{kept_zero, kept_other, kept_one}
use Rattle.digit_floats.proofs.hexadecimal.keep_hex.Goals as goal

pub returns-then-kept-clause-keeps : goal.returns-then-kept-clause-keeps
returns-then-kept-clause-keeps c number is =
    kept_one c.args.kept number c.args.digit is (omega arith) (omega arith)

pub returns-then-digit-eq0-clause-keeps : goal.returns-then-digit-eq0-clause-keeps
returns-then-digit-eq0-clause-keeps c number is =
    kept_zero c.args.kept number c.args.digit is (omega arith) (omega arith) (omega arith)

pub returns-clause-keeps : goal.returns-clause-keeps
returns-clause-keeps c number is =
    kept_other c.args.kept number c.args.digit is (omega arith) (omega arith) (omega arith)
    (omega arith)
