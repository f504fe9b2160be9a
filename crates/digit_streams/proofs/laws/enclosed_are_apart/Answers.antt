use Rattle.std.specs.Prelude.{◌==◌}
use Rattle.std.proofs.lemmas.Bool.{eqb-true}
use Rattle.digit_pieces.proofs.Shared.{apart_both}
use Rattle.digit_streams.proofs.laws.enclosed_are_apart.Goals as goal

pub returns : goal.returns
returns g c =
    let a = c.args in
    apart_both (g.K.Kind.has_byte a.kind) (λ byte. byte == a.closing) a.opening a.gap
    c.requires.kind c.requires.opening
    (λ byte same. rw (eqb-true byte a.closing same) c.requires.closing)
