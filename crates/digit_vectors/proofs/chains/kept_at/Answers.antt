use Rattle.std.proofs.Common.{ap, ◌∙◌, slice_get}
use Rattle.std.proofs.lemmas.Iterator.Consumers.{nth_from_yields_List}
use Rattle.lexical_digits.specs.declared.skip.component.Component.TheVariants.{Special}
use Rattle.lexical_digits.specs.CallTable.{drain_of}
use Rattle.lexical_digits.proofs.Calls.ForCallers.{YieldsList-from_digits}
use Rattle.digit_vectors.proofs.chains.kept_at.Goals as goal

pub returns : goal.returns
returns c =
    c.copied.ensures
    ∙ nth_from_yields_List c.nth.result _ c.args.index c.nth.ensures.ran
    (YieldsList-from_digits Special (λ i. i.byte) c.special_iter.result)
    ∙ ap (λ s. slice_get (drain_of Special s) c.args.index)
    (c.special_iter.ensures.state ∙ c.new-bytes.ensures.state)
