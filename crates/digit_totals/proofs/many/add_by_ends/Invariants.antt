-- The lines so far are added.
use Rattle.std.proofs.Common.{◌≡◌, ◌≤◌, ◌-◌, length, drop}
use Rattle.digit_literals.specs.Ends.{AreOthers}
use Rattle.digit_totals.specs.Report.{Leaves}
use Rattle.digit_totals.specs.Sums.{IsNear, no_sums, joined}
use Rattle.digit_totals.specs.Totals.{adding}
use Rattle.digit_totals.proofs.LinesByEnds.{Begins}
use Rattle.digit_totals.proofs.many.add_by_ends.Given as goal

abbrev pub invariant-loop-line : goal.invariant-loop-line
invariant-loop-line l = record {
  added : Leaves (adding l.fn.options) l.fn.totals l.fn.text (joined l.fn.totals l.sums)
      (drop l.at l.fn.text);
  within : l.at ≤ length l.fn.text;
  fresh : Begins l.fn.options l.fn.text l.at;
  others : AreOthers l.fn.text l.at l.others;
  near : IsNear l.sums.count l.sums.sum;
  few : l.sums.count ≤ l.at;
  empty : l.sums.count ≡ 0 → l.sums ≡ no_sums;
}

abbrev pub decreases-loop-line : goal.decreases-loop-line
decreases-loop-line l = length l.fn.text - l.at
