use Rattle.std.proofs.Common.{arith}
use Rattle.lexical_digits.specs.State.{rule_of}
use Rattle.lexical_digits.specs.declared.skip.component.Component.TheVariants.{Integer}
use Rattle.lexical_digits.proofs.Rule.Supported.{supported_rule}
use Rattle.digit_integers.proofs.Texts.{some_at, none_at, over_at, says_some, says_none, says_over}
use Rattle.digit_integers.proofs.laws.outcomes_say.Goals as goal

pub returns-clause-ok : goal.returns-clause-ok
returns-clause-ok c = λ start most value end.
    let r = rule_of c.args.word Integer in
    let text = c.args.text.now in
    (says_some r text start most value end, λ is. grind (arith, is, some_at r text start most))

pub returns-clause-empty : goal.returns-clause-empty
returns-clause-empty c = λ start most at.
    let r = rule_of c.args.word Integer in
    let text = c.args.text.now in
    (says_none r text start most at, λ is. grind (arith, is, none_at r text start most))

pub returns-clause-overflow : goal.returns-clause-overflow
returns-clause-overflow c = λ start most at within.
    let r = rule_of c.args.word Integer in
    let low = (supported_rule c.args.word Integer c.requires).low in
    let text = c.args.text.now in
    (says_over r text start most low within at, over_at r text start most low within at)
