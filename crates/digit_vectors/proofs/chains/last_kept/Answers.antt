use Rattle.std.proofs.Common.{None, ap, ◌∙◌}
use Rattle.std.specs.List.{last_or}
use Rattle.lexical_digits.specs.declared.skip.component.Component.TheVariants.{Integer}
use Rattle.lexical_digits.specs.CallTable.{drain_of}
use Rattle.lexical_digits.proofs.Calls.ForCallers.{YieldsList-from_digits, last_from_yields_List}
use Rattle.digit_vectors.proofs.chains.last_kept.Goals as goal

pub returns : goal.returns
returns c =
    c.copied.ensures
    ∙ last_from_yields_List c.last.result c.last.ensures.ran
    (YieldsList-from_digits Integer (λ i. i.byte) c.integer_iter.result)
    ∙ ap (λ s. last_or None (drain_of Integer s))
    (c.integer_iter.ensures.state ∙ c.new-bytes.ensures.state)
