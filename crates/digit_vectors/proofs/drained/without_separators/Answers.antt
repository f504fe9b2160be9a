use Rattle.std.proofs.Common.{◌≡◌, ap, subst, List, ℕ, ◌∙◌}
use Rattle.std.proofs.lemmas.Iterator.{items_from_collect}
use Rattle.std.proofs.lemmas.Iterator.Consumers.{YieldsList-from_copied, YieldsList-at}
use Rattle.std.specs.Result.{IfOk}
use Rattle.lexical_digits.specs.declared.skip.component.Component.TheVariants.{Integer}
use Rattle.lexical_digits.specs.CallTable.{drain_of}
use Rattle.lexical_digits.proofs.Calls.ForCallers.{YieldsList-from_digits}
use Rattle.digit_vectors.proofs.drained.without_separators.Goals as goal

pub returns : goal.returns
returns c =
    subst (λ (xs : List ℕ). IfOk c.collect.result (λ v. v.items ≡ xs))
    (ap (drain_of Integer) (c.integer_iter.ensures.state ∙ c.new-bytes.ensures.state))
    (items_from_collect _ c.collect.ensures.ran (YieldsList-from_copied
    (YieldsList-at c.copied.ensures.source
    (YieldsList-from_digits Integer (λ i. i.byte) c.integer_iter.result))))
