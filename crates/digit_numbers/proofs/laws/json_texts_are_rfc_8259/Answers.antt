use Rattle.std.proofs.Common.{arith, subst}
use Rattle.digit_numbers.proofs.Json.{SaysWhole, says_whole, whole_integer, whole_float}
use Rattle.digit_numbers.proofs.laws.json_texts_are_rfc_8259.Goals as goal

pub returns-clause-number : goal.returns-clause-number
returns-clause-number g c n h =
    subst (SaysWhole c.args.text.now 0 (omega arith) g.F.Float.format) h
    (says_whole c.args.text.now 0 (omega arith) g.F.Float.format)

pub returns-clause-none : goal.returns-clause-none
returns-clause-none g c error h n =
    subst (SaysWhole c.args.text.now 0 (omega arith) g.F.Float.format) h
    (says_whole c.args.text.now 0 (omega arith) g.F.Float.format) n

pub returns-clause-sign : goal.returns-clause-sign
returns-clause-sign g c n m w h =
    (whole_integer c.args.text.now 0 (omega arith) g.F.Float.format n m w h).0

pub returns-clause-value : goal.returns-clause-value
returns-clause-value g c n m w most h =
    (whole_integer c.args.text.now 0 (omega arith) g.F.Float.format n m w h).1 most

pub returns-clause-nearest : goal.returns-clause-nearest
returns-clause-nearest g c = whole_float c.args.text.now 0 (omega arith) g.F.Float.format
