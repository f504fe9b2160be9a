use Rattle.std.proofs.Common.{arith}
use Rattle.lexical_digits.proofs.Rule.Supported.{supported_rule, supported_by}
use Rattle.digit_values.proofs.Firsts.{all_read}
use Rattle.digit_values.proofs.first.read_first_digits_from.Goals as goal

pub decimals_slice-requires-clause-supported : goal.decimals_slice-requires-clause-supported
decimals_slice-requires-clause-supported c =
    supported_by _ c.args.word c.args.component c.of-rule.ensures c.requires.supported

pub returns-in-Some : goal.returns-in-Some
returns-in-Some c =
    let supported = supported_rule c.args.word c.args.component c.requires.supported in
    let all =
    all_read _ _ _ _ _ _ _ c.of-rule.ensures supported c.in-Some.ensures.reads c.in-Some.ensures.all
    in
    grind (arith, all)
