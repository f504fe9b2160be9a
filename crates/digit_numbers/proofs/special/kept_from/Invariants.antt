use Rattle.std.proofs.Common.{◌≡◌}
use Rattle.lexical_digits.specs.declared.skip.component.Component.TheVariants as components
use Rattle.lexical_digits.specs.Separators.{place}
use Rattle.lexical_digits.specs.State.{rule_of}
use Rattle.digit_numbers.proofs.special.kept_from.Given as goal

abbrev pub invariant-loop-i : goal.invariant-loop-i
invariant-loop-i l =
    place (rule_of l.word components.Special) l.text l.at 0
    ≡ place (rule_of l.word components.Special) l.text l.i 0
