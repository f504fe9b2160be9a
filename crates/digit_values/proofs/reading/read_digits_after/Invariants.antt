use Rattle.std.proofs.Common.{◌≡◌, ◌*◌, ◌≤◌, length, take, drop, pos, ◌≤ℤ◌, ◌+ℤ◌}
use Rattle.std.specs.Fn.{iterate}
use Rattle.std.specs.Str.Parse.{digits_value_after}
use Rattle.digit_values.specs.Outcomes.{digits}
use Rattle.digit_values.proofs.reading.read_digits_after.Given as goal

abbrev pub invariant-loop-digit : goal.invariant-loop-digit
invariant-loop-digit g l =
    let i = g.I.Iter in
    let d = g.I.DigitsIter in
    let m = i.meaning l.initial.iter in
    let n = i.meaning l.iter in
    let led = digits i.buffer i.cursor d.place d.taken d.settled l.radix in
    record {
      stands : n ≡ iterate d.taken l.count m;
      rest : drop l.count (led m) ≡ led n;
      within : l.count ≤ length (led m);
      value : l.value ≡ digits_value_after l.radix l.before (take l.count (led m));
      fits : l.value ≤ l.most;
      below : l.count ≤ i.cursor n;
      owes : i.owed l.iter ≤ℤ (i.owed l.initial.iter +ℤ pos (8 * l.count));
      keeps_loan : i.loan l.iter ≡ i.loan l.initial.iter;
    }

abbrev pub decreases-loop-digit : goal.decreases-loop-digit
decreases-loop-digit g l =
    let i = g.I.Iter in
    let d = g.I.DigitsIter in
    length (digits i.buffer i.cursor d.place d.taken d.settled l.radix (i.meaning l.iter))
