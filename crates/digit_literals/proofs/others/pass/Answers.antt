use Rattle.std.proofs.Common.{arith}
use Rattle.digit_literals.proofs.ByEnds.{passed_on, passed_each, none_left}
use Rattle.digit_literals.proofs.others.pass.Goals as goal

pub returns-then-count-lt-BLOCK-clause-others : goal.returns-then-count-lt-BLOCK-clause-others
returns-then-count-lt-BLOCK-clause-others c = λ text at are.
    passed_on text at c.args.count c.args.others are

pub returns-then-count-lt-BLOCK-clause-each : goal.returns-then-count-lt-BLOCK-clause-each
returns-then-count-lt-BLOCK-clause-each c = λ text at left _ each.
    passed_each text at c.args.count c.args.others left each

pub returns-else-count-lt-BLOCK-clause-each : goal.returns-else-count-lt-BLOCK-clause-each
returns-else-count-lt-BLOCK-clause-each c = λ text at left room _.
    let none = c.if-count-lt-BLOCK.false in
    none_left text at c.args.count c.args.others left room (omega (arith, none))
