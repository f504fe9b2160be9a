use Rattle.std.proofs.Common.{◌%◌, arith}
use Rattle.std.proofs.lemmas.Bool.Decides.{nat_tests}
use Rattle.std.proofs.lemmas.Option.{gets}
use Rattle.digit_literals.proofs.ByEnds.{inside, passed_on}
use Rattle.digit_literals.proofs.ends.pass_sign.Goals as goal

pub returns-clause-negative : goal.returns-clause-negative
returns-clause-negative g c =
    let there =
    inside c.args.text.now c.args.place c.args.others c.requires.others c.requires.some
    (omega arith) in
    grind (arith, nat_tests, gets, there)

pub returns-clause-begins : goal.returns-clause-begins
returns-clause-begins g c =
    let there =
    inside c.args.text.now c.args.place c.args.others c.requires.others c.requires.some
    (omega arith) in
    grind (arith, nat_tests, gets, there)

pub returns-clause-others : goal.returns-clause-others
returns-clause-others g c =
    passed_on c.args.text.now c.args.place (c.args.others % 2) c.args.others c.requires.others
