use Rattle.std.proofs.Common.{refl}
use Rattle.lexical_digits.proofs.Rule.Supported.{supported_rule}
use Rattle.lexical_digits.specs.State.{rule_of}
use Rattle.digit_floats.proofs.EightDigits.{stops, reads}
use Rattle.digit_floats.proofs.eights.read_long_part.Goals as goal

pub returns-clause-stops : goal.returns-clause-stops
returns-clause-stops c =
    let r = rule_of c.args.word c.args.component in
    let text = c.args.text.now in
    let end = rw c.of-rule.ensures at c.digits_end-end.ensures in
    let apart = rw c.of-rule.ensures at c.if-has_separator.ensures in
    stops r text c.args.start c.digits_end-end.result
    (supported_rule c.args.word c.args.component c.requires.supported) end.onward end.within
    end.digits end.other (apart refl)

pub returns-clause-first : goal.returns-clause-first
returns-clause-first c =
    let r = rule_of c.args.word c.args.component in
    let text = c.args.text.now in
    let end = rw c.of-rule.ensures at c.digits_end-end.ensures in
    let front = rw c.of-rule.ensures at c.read_front-front.ensures in
    rw (← returns-clause-stops c)
    (reads r text c.args.start c.read_front-front.result.end c.digits_end-end.result c.args.before
    c.read_front-front.result.value c.requires.decimal
    (supported_rule c.args.word c.args.component c.requires.supported) front.onward front.within
    end.within end.digits front.is front.fits front.next)
