use Rattle.std.proofs.Common.{◌≡◌, ◌+◌, ◌%◌, ◌^◌, length}
use Rattle.std.specs.Prelude.{IfSome, IfNone}
use Rattle.std.specs.Str.Parse.{digits_value_after}
use Rattle.digit_values.specs.After.{digits_between}
use Rattle.digit_values.specs.Reads.{IsWorth}
use Rattle.digit_values.proofs.Passed.{HasPassed}
use Rattle.digit_values.proofs.slice.read_on.Given as goal

abbrev pub invariant-loop-at : goal.invariant-loop-at
invariant-loop-at l =
    let digits = digits_between l.rule l.text l.start l.at in
    record {
      passed : HasPassed l.rule l.text l.start l.at;
      all : l.at ≡ l.start + length digits + l.separators;
      worth : IfSome l.most (IsWorth l.rule.radix l.before digits l.value);
      wrapped : IfNone l.most (l.value ≡ digits_value_after l.rule.radix l.before digits % 2 ^ 64);
    }
