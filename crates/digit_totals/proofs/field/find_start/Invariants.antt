-- What is read is read of the fields from here on.
use Rattle.std.proofs.Common.{◌≡◌, ◌+◌, ◌-◌, ◌≤◌, length, drop}
use Rattle.digit_totals.specs.Field.{fields_of, first_quoted, nth_span, unless_quoted}
use Rattle.digit_totals.proofs.field.find_start.Given as goal

abbrev pub invariant-loop-passed : goal.invariant-loop-passed
invariant-loop-passed l = record {
  within : l.start ≤ length l.line;
  read : unless_quoted (first_quoted 1 l.before (fields_of l.separator l.line))
      (nth_span 0 l.before (fields_of l.separator l.line))
      ≡ unless_quoted
      (first_quoted (l.passed + 1) (l.before - l.passed)
      (fields_of l.separator (drop l.start l.line)))
      (nth_span l.start (l.before - l.passed) (fields_of l.separator (drop l.start l.line)));
}
