use Rattle.std.proofs.Common.{ap, ◌∙◌, length, inl, arith}
use Rattle.std.proofs.lemmas.Iterator.Consumers.{count_from_yields_List}
use Rattle.lexical_digits.specs.declared.skip.component.Component.TheVariants.{Integer}
use Rattle.lexical_digits.specs.CallTable.{drain_of}
use Rattle.lexical_digits.proofs.Calls.ForCallers.{YieldsList-from_digits, drain_fits}
use Rattle.digit_vectors.proofs.drained.length_without_separators.Goals as goal

pub count-requires-clause-fits : goal.count-requires-clause-fits
count-requires-clause-fits c =
    let held = c.integer_iter.result.byte.now in
    inl (omega (arith, drain_fits Integer held.state held.holds))

pub returns : goal.returns
returns c =
    count_from_yields_List c.integer_iter.result _ c.count.ensures.ran
    (YieldsList-from_digits Integer (λ i. i.byte) c.integer_iter.result)
    ∙ ap (λ s. length (drain_of Integer s))
    (c.integer_iter.ensures.state ∙ c.new-bytes.ensures.state)
