use Rattle.std.proofs.Common.{subst}
use Rattle.digit_numbers.proofs.Json.{Says, says, number_of}
use Rattle.digit_numbers.proofs.laws.json_is_rfc_8259.Goals as goal

pub returns-clause-number : goal.returns-clause-number
returns-clause-number g c n end h =
    number_of c.args.text.now c.args.start c.requires g.F.Float.format n end h

pub returns-clause-integer : goal.returns-clause-integer
returns-clause-integer g c negative magnitude said end h =
    (subst (Says c.args.text.now c.args.start c.requires g.F.Float.format) h
    (says c.args.text.now c.args.start c.requires g.F.Float.format)).1

pub returns-clause-none : goal.returns-clause-none
returns-clause-none g c error end h n =
    subst (Says c.args.text.now c.args.start c.requires g.F.Float.format) h
    (says c.args.text.now c.args.start c.requires g.F.Float.format) end n
