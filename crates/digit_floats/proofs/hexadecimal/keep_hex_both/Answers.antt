use Rattle.std.proofs.Common.{filter}
use Rattle.std.specs.Char.{is_ascii_hexdigit}
use Rattle.digit_floats.proofs.HexDigits.{kept_both}
use Rattle.digit_floats.proofs.hexadecimal.keep_hex_both.Goals as goal

pub returns-clause-keeps : goal.returns-clause-keeps
returns-clause-keeps c =
    kept_both c.keep_hex_digits-kept.result c.keep_hex_digits.result
    (filter is_ascii_hexdigit c.args.whole.now) (filter is_ascii_hexdigit c.args.fraction.now)
    c.keep_hex_digits-kept.ensures.keeps c.keep_hex_digits.ensures.keeps
