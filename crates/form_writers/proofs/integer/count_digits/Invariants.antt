use Rattle.std.proofs.Common.{◌≡◌, ◌+◌, length}
use Rattle.decimal_writers.specs.Text.{number_text}
use Rattle.form_writers.proofs.integer.count_digits.Given as goal

abbrev pub invariant-loop-left : goal.invariant-loop-left
invariant-loop-left l = l.count + length (number_text l.left) ≡ length (number_text l.n) + 1

abbrev pub decreases-loop-left : goal.decreases-loop-left
decreases-loop-left l = l.left
