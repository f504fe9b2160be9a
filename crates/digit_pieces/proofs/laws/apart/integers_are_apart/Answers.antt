use Rattle.std.proofs.Common.{arith}
use Rattle.digit_pieces.specs.Apart.{is_word_byte}
use Rattle.digit_pieces.specs.Cuts.{is_integer_byte}
use Rattle.digit_pieces.proofs.Shared.{apart_by_test, of_integer}
use Rattle.digit_pieces.proofs.laws.apart.integers_are_apart.Goals as goal

pub returns : goal.returns
returns g c =
    let least = g.T.Integer.MIN_MAGNITUDE in
    let word = c.args.word in
    apart_by_test (is_integer_byte least word) (is_word_byte word) c.args.gap
    (record { separators = omega arith; blanks = omega arith })
    c.requires (λ b h. of_integer word b least h)
