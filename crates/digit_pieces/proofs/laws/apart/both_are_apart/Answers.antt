use Rattle.digit_pieces.proofs.Shared.{apart_both}
use Rattle.digit_pieces.proofs.laws.apart.both_are_apart.Goals as goal

pub returns : goal.returns
returns g c =
    apart_both (g.A.Kind.has_byte c.args.first) (g.B.Kind.has_byte c.args.second) c.args.between
    c.args.gap c.requires.first c.requires.between c.requires.second
