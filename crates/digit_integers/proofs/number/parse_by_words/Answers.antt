use Rattle.lexical_digits.specs.declared.skip.component.Component.TheVariants.{Integer}
use Rattle.lexical_digits.proofs.Rule.Supported.{supported_by}
use Rattle.digit_integers.proofs.number.parse_by_words.Goals as goal

pub read_to_end-requires-clause-supported : goal.read_to_end-requires-clause-supported
read_to_end-requires-clause-supported g c =
    supported_by _ c.args.word Integer c.of-rule.ensures c.requires.supported
