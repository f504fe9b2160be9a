use Rattle.std.proofs.Common.{arith}
use Rattle.digit_numbers.specs.Follows.{is_number_byte}
use Rattle.digit_pieces.proofs.Shared.{apart_by_test}
use Rattle.digit_pieces.proofs.laws.apart.numbers_are_apart.Goals as goal

pub returns : goal.returns
returns c =
    let has = is_number_byte c.args.form in
    apart_by_test has has c.args.gap
    (record { separators = omega arith; blanks = omega arith })
    c.requires (λ b h. h)
