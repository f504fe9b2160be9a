use Rattle.std.proofs.Common.{◌≡◌, ◌+◌, length}
use Rattle.digit_values.specs.After.{digits_between}
use Rattle.digit_values.proofs.LeadingZeros.{AllZeros}
use Rattle.digit_values.proofs.Passed.{HasPassed}
use Rattle.digit_values.proofs.zeros.read_zeros.Given as goal

abbrev pub invariant-loop-at : goal.invariant-loop-at
invariant-loop-at l = record {
  passed : HasPassed l.rule l.text l.start l.at;
  zeros : AllZeros l.rule l.text l.start l.at;
  all : l.at ≡ l.start + length (digits_between l.rule l.text l.start l.at) + l.separators;
}
