use Rattle.std.proofs.Common.{◌≡◌, ◌≤◌}
use Rattle.std.specs.Str.Parse.{digits_value}
use Rattle.digit_values.specs.After.{digits_between}
use Rattle.digit_integers.proofs.wide.value_between.Given as goal

-- the value of the digits so far
abbrev pub invariant-loop-at : goal.invariant-loop-at
invariant-loop-at l = record {
  value : l.value ≡ digits_value l.rule.radix (digits_between l.rule l.text l.start l.at);
  fits : l.value ≤ l.most;
}
