use Rattle.std.proofs.Common.{sym}
use Rattle.std.proofs.lemmas.List.{take_rest}
use Rattle.digit_totals.proofs.Fields.{front_field, only_field}
use Rattle.digit_totals.proofs.field.find_end.Goals as goal

pub returns-in-Some-clause-is : goal.returns-in-Some-clause-is
returns-in-Some-clause-is c =
    let line = c.args.line.now in
    let found = sym (rw (take_rest line c.args.start) at c.in-Some.ensures) in
    (_, front_field c.args.separator line c.args.start c.requires c.in-Some.count found)

pub returns-in-None-clause-is : goal.returns-in-None-clause-is
returns-in-None-clause-is c =
    let line = c.args.line.now in
    let found = sym (rw (take_rest line c.args.start) at c.in-None.ensures) in
    (_, only_field c.args.separator line c.args.start c.requires found)
