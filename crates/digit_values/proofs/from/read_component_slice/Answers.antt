use Rattle.lexical_digits.proofs.Rule.Supported.{supported_by}
use Rattle.digit_values.proofs.from.read_component_slice.Goals as goal

pub read_slice-requires-clause-supported : goal.read_slice-requires-clause-supported
read_slice-requires-clause-supported c =
    supported_by _ c.args.word c.args.component c.of.ensures c.requires.supported
