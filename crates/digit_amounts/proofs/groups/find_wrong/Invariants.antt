use Rattle.std.proofs.Common.{◌≡◌, ◌≤◌, true}
use Rattle.std.specs.Prelude.{nat_eq}
use Rattle.lexical_digits.specs.Separators.{is_separator}
use Rattle.digit_amounts.specs.Groups.{wrong_of}
use Rattle.digit_amounts.proofs.Grouping.{NonePasses, parts}
use Rattle.digit_amounts.proofs.groups.find_wrong.Given as goal

abbrev pub invariant-loop-place : goal.invariant-loop-place
invariant-loop-place l =
    let p = is_separator l.rule.separator in
    record {
      onward : l.at ≤ l.begin;
      before : l.begin ≤ l.place;
      none : NonePasses p l.text l.begin l.place;
      same : wrong_of true l.at (parts p l.text l.at l.end)
          ≡ wrong_of (nat_eq l.begin l.at) l.begin (parts p l.text l.begin l.end);
    }
