use Rattle.lexical_digits.proofs.Rule.Supported.{supported_by}
use Rattle.lexical_digits.proofs.skip.bytes.Bytes.rule.Goals as goal

pub returns-clause-supported : goal.returns-clause-supported
returns-clause-supported c =
    supported_by _ c.self.inside.format c.args.component c.of.ensures c.self.inside.holds.word
