use Rattle.digit_pieces.proofs.Gives.{given_before, given_alone}
use Rattle.digit_pieces.proofs.laws.a_number_is_given.Goals as goal

pub returns-clause-before : goal.returns-clause-before
returns-clause-before g c =
    let k = g.K.Kind in
    λ is_last room start end last x is begins ends within other no_blank.
    given_before (k.has_byte c.args.kind) c.args.gap c.args.text.now is_last
    (k.number_at c.args.kind c.args.text.now) k.none_at room start end last x is begins ends
    within other no_blank

pub returns-clause-blanks : goal.returns-clause-blanks
returns-clause-blanks g c =
    let k = g.K.Kind in
    λ is_last room start end last x is begins ends within other alone.
    given_alone (k.has_byte c.args.kind) c.args.gap c.args.text.now is_last
    (k.number_at c.args.kind c.args.text.now) k.none_at room start end last x is begins ends
    within other alone
