use Rattle.std.proofs.Common.{arith}
use Rattle.lexical_digits.specs.State.{rule_of}
use Rattle.lexical_digits.specs.declared.skip.component.Component.TheVariants.{Integer}
use Rattle.lexical_digits.proofs.Rule.Supported.{supported_rule}
use Rattle.digit_integers.proofs.Texts.{reads_integer}
use Rattle.digit_integers.proofs.wide.read_wide_known.Goals as goal

pub returns-in_err-value-2 : goal.returns-in_err-value-2
returns-in_err-value-2 c =
    let low = (supported_rule c.args.word Integer c.requires.supported).low in
    let read = c.read_known-is_empty.ensures in
    let all = reads_integer (rule_of c.args.word Integer) _ _ _ c.args.most low c.requires.within
    (omega arith) _ _ read.reads read.empty (λ large. grind (arith, c.if-read.false, large)) in
    grind (arith, all)

pub returns : goal.returns
returns c =
    let low = (supported_rule c.args.word Integer c.requires.supported).low in
    let read = c.read_known-is_empty.ensures in
    let all = reads_integer (rule_of c.args.word Integer) _ _ _ c.args.most low c.requires.within
    (omega arith) _ _ read.reads read.empty (λ large. grind (arith, c.if-read.false, large)) in
    grind (arith, all)
