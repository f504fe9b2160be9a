use Rattle.std.proofs.Common.{filter}
use Rattle.std.specs.Char.{is_ascii_digit}
use Rattle.digit_floats.proofs.Written.{kept_both}
use Rattle.digit_floats.proofs.long.keep_both.Goals as goal

pub returns-clause-keeps : goal.returns-clause-keeps
returns-clause-keeps c =
    kept_both c.args.bytes.now c.keep_digits-kept.new.bytes c.keep_digits.new.bytes
    c.keep_digits-kept.result c.keep_digits.result
    (filter is_ascii_digit c.args.whole.now) (filter is_ascii_digit c.args.fraction.now)
    c.keep_digits-kept.ensures.keeps c.keep_digits.ensures.keeps
