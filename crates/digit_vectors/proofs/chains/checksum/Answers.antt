use Rattle.std.proofs.Common.{rules, ℕ, ◌+◌, ◌%◌, fold, ap, ◌∙◌}
use Rattle.lexical_digits.specs.declared.skip.component.Component.TheVariants.{Integer}
use Rattle.lexical_digits.specs.CallTable.{drain_of}
use Rattle.lexical_digits.proofs.Calls.ForCallers.{YieldsList-from_digits, fold_from_yields_List}
use Rattle.digit_vectors.proofs.chains.checksum.Goals as goal

abbrev add : ℕ → ℕ → ℕ
add sum byte = (sum + byte) % 256

pub returns : goal.returns
returns c =
    fold_from_yields_List add 0 c.fold.result c.fold.ensures.ran
    (YieldsList-from_digits Integer (λ i. i.byte) c.integer_iter.result)
    (λ b x d f' k. search rules)
    ∙ ap (λ s. fold add 0 (drain_of Integer s))
    (c.integer_iter.ensures.state ∙ c.new-bytes.ensures.state)
