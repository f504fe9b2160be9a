use Rattle.std.proofs.Common.{arith}
use Rattle.digit_pieces.proofs.Shared.{apart_by_test}
use Rattle.digit_pieces.proofs.laws.apart.any_are_apart.Goals as goal

pub returns : goal.returns
returns g c =
    let has = g.K.Kind.has_byte c.args.kind in
    apart_by_test has has c.args.gap
    (record { separators = omega arith; blanks = omega arith })
    c.requires (λ b h. h)
