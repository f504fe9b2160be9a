use Rattle.std.proofs.Common.{◌≡◌, ◌++◌}
use Rattle.lexical_digits.specs.declared.skip.component.Component.TheVariants.{Exponent}
use Rattle.lexical_digits.specs.CallTable.{drain_of}
use Rattle.digit_vectors.proofs.chains.kept_by_for.Given as goal

-- what was pushed, and what is left
abbrev pub invariant-loop-byte : goal.invariant-loop-byte
invariant-loop-byte l =
    l.kept.items ++ drain_of Exponent l.byte-iterator.byte.now.state
    ≡ drain_of Exponent l.initial.byte-iterator.byte.now.state
