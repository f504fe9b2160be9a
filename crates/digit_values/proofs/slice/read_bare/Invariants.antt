use Rattle.std.proofs.Common.{◌≡◌, ◌+◌, ◌%◌, ◌^◌, ◌≤◌, length}
use Rattle.std.specs.Str.Parse.{digits_value_after}
use Rattle.digit_values.specs.After.{digits_between}
use Rattle.digit_values.proofs.Passed.{HasPassed}
use Rattle.digit_values.proofs.slice.read_bare.Given as goal

abbrev pub invariant-loop-at : goal.invariant-loop-at
invariant-loop-at l =
    let digits = digits_between l.rule l.text l.start l.at in
    record {
      passed : HasPassed l.rule l.text l.start l.at;
      all : l.at ≡ l.start + length digits;
      onward : l.fn.plain.end ≤ l.at;
      wrapped : l.value ≡ digits_value_after l.rule.radix l.before digits % 2 ^ 64;
    }
