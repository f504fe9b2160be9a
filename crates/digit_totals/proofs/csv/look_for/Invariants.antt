-- The column is where the search says that it is, whatever bytes are left.
use Rattle.std.proofs.Common.{◌≡◌, ◌≤◌, drop}
use Rattle.std.specs.Prelude.{fold, IfSome}
use Rattle.digit_totals.specs.declared.csv.Place.TheVariants.{Start}
use Rattle.digit_totals.specs.Field.{after, csv_fields, end_of, nth_span}
use Rattle.digit_totals.proofs.CsvFields.{span_from}
use Rattle.digit_totals.proofs.csv.look_for.Given as goal

abbrev pub invariant-loop-at : goal.invariant-loop-at
invariant-loop-at l = record {
  place : end_of l.separator l.line
      ≡ fold (after l.separator) l.sought.place (drop l.at l.line);
  span : nth_span 0 l.before (csv_fields l.separator Start l.line)
      ≡ span_from l.sought l.at (csv_fields l.separator l.sought.place (drop l.at l.line));
  order : l.sought.start ≤ l.at;
  within : IfSome l.sought.found (λ span. (span.0 ≤ span.1) × (span.1 ≤ l.at));
}
