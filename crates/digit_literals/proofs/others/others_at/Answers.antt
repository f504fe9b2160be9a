use Rattle.digit_literals.proofs.ByEnds.{mask_is}
use Rattle.digit_literals.proofs.others.others_at.Goals as goal

pub returns-clause-others : goal.returns-clause-others
returns-clause-others c = (mask_is c.args.text.now c.args.at c.requires c.type_inv.text).0

pub returns-clause-each : goal.returns-clause-each
returns-clause-each c = (mask_is c.args.text.now c.args.at c.requires c.type_inv.text).1
