use Rattle.std.proofs.Common.{arith}
use Rattle.digit_floats.specs.Float.{plain_marks}
use Rattle.digit_pieces.specs.Apart.{is_pointed_byte}
use Rattle.digit_pieces.specs.Cuts.{is_float_byte}
use Rattle.digit_pieces.proofs.Shared.{apart_by_test, of_float}
use Rattle.digit_pieces.proofs.laws.apart.floats_are_apart.Goals as goal

pub returns : goal.returns
returns c =
    let word = c.args.word in
    apart_by_test (is_float_byte word plain_marks) (is_pointed_byte word 46) c.args.gap
    (record { separators = omega arith; blanks = omega arith })
    c.requires (λ b h. of_float word b h)
