use Rattle.digit_lists.proofs.AtEnd.{may_trail}
use Rattle.digit_lists.proofs.laws.a_blank_text.Goals as goal

pub returns-clause-may_trail : goal.returns-clause-may_trail
returns-clause-may_trail g c =
    let k = g.K.Kind in
    may_trail (k.number_at c.args.kind c.args.text.now) k.none_at c.args.gap c.args.text.now
    c.args.error c.requires.blank c.requires.none c.requires.there
