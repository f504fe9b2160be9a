use Rattle.std.proofs.Common.{length}
use Rattle.lexical_digits.specs.Stop.{leading_digits_of}
use Rattle.digit_values.proofs.Counted.{GoesOn}
use Rattle.digit_values.proofs.slice.read_bytes.Given as goal

abbrev pub invariant-loop-digit : goal.invariant-loop-digit
invariant-loop-digit l =
    GoesOn l.fn.component l.before l.most l.initial.bytes l.bytes l.radix l.value l.count

abbrev pub decreases-loop-digit : goal.decreases-loop-digit
decreases-loop-digit l = length (leading_digits_of l.fn.component l.bytes.state)
