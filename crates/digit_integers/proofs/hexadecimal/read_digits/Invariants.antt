use Rattle.std.proofs.Common.{◌+◌}
use Rattle.digit_integers.specs.Hexadecimal.{AreHexadecimal}
use Rattle.digit_integers.proofs.hexadecimal.read_digits.Given as goal

abbrev pub invariant-loop-count : goal.invariant-loop-count
invariant-loop-count l =
    AreHexadecimal l.fn.rule l.text l.start (l.start + l.count) l.value
