use Rattle.std.proofs.Common.{arith}
use Rattle.digit_pieces.specs.Apart.{is_pointed_byte}
use Rattle.digit_pieces.specs.Cuts.{is_scaled_byte}
use Rattle.digit_pieces.proofs.Shared.{apart_by_test, of_scaled}
use Rattle.digit_pieces.proofs.laws.apart.scaled_are_apart.Goals as goal

pub returns : goal.returns
returns c =
    let word = c.args.word in
    let point = c.args.point in
    apart_by_test (is_scaled_byte word point) (is_pointed_byte word point) c.args.gap
    (record { separators = omega arith; blanks = omega arith })
    c.requires (λ b h. of_scaled word b point h)
