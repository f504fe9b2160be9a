use Rattle.std.proofs.Common.{◌≡◌, ◌-◌, ◌^◌, ◌≤◌}
use Rattle.std.specs.Str.Parse.{digits_value_after}
use Rattle.digit_values.specs.After.{digits_between}
use Rattle.digit_floats.proofs.eights.read_front.Given as goal

abbrev pub invariant-loop-at : goal.invariant-loop-at
invariant-loop-at l =
    record {
      onward : l.start ≤ l.at;
      is : l.value
          ≡ digits_value_after l.fn.rule.radix l.before
          (digits_between l.fn.rule l.text l.start l.at);
      fits : l.value ≤ 10 ^ 19 - 1;
    }
