use Rattle.lexical_digits.proofs.Rule.Supported.{supported_rule, supported_by}
use Rattle.digit_values.proofs.Firsts.{all_read}
use Rattle.digit_values.proofs.first.few_from.Goals as goal

pub few_slice-requires-clause-supported : goal.few_slice-requires-clause-supported
few_slice-requires-clause-supported c =
    supported_by _ c.args.word c.args.component c.requires.rule c.requires.supported

pub returns-clause-reads : goal.returns-clause-reads
returns-clause-reads c =
    rw c.all.ensures
    (all_read _ _ _ _ _ _ _ c.requires.rule
    (supported_rule c.args.word c.args.component c.requires.supported) c.in_ok-read.ensures.reads
    c.in_ok-read.ensures.all)
