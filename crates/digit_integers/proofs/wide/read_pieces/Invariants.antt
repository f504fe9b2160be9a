use Rattle.std.proofs.Common.{◌≡◌, ◌-◌, ◌≤◌, length}
use Rattle.std.specs.Str.Parse.{digits_value}
use Rattle.lexical_digits.specs.State.{rule_of}
use Rattle.lexical_digits.specs.declared.skip.component.Component.TheVariants.{Integer}
use Rattle.digit_values.specs.After.{digits_between}
use Rattle.digit_values.proofs.Onward.{IsOn}
use Rattle.digit_integers.proofs.wide.read_pieces.Given as goal

-- the value of the digits so far, and a digit from which the stop is the same
abbrev pub invariant-loop-at : goal.invariant-loop-at
invariant-loop-at l =
    let r = rule_of l.word Integer in
    record {
      onward : l.start ≤ l.at;
      on : IsOn l.word l.text l.start l.at;
      is : l.value ≡ digits_value r.radix (digits_between r l.text l.start l.at);
    }

abbrev pub decreases-loop-at : goal.decreases-loop-at
decreases-loop-at l = length l.text - l.at
