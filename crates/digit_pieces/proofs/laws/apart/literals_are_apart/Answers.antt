use Rattle.std.proofs.Common.{arith}
use Rattle.digit_languages.specs.Follows.{is_literal_byte}
use Rattle.digit_pieces.proofs.Shared.{apart_by_test}
use Rattle.digit_pieces.proofs.laws.apart.literals_are_apart.Goals as goal

pub returns : goal.returns
returns c =
    let has = is_literal_byte c.args.language in
    apart_by_test has has c.args.gap
    (record { separators = omega arith; blanks = omega arith })
    c.requires (λ b h. h)
