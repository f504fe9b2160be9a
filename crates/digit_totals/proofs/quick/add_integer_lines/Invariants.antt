-- The lines so far are added.
use Rattle.std.proofs.Common.{◌≡◌, ◌≤◌, length}
use Rattle.digit_totals.specs.Report.{Leaves}
use Rattle.digit_totals.specs.Sums.{IsNear, no_sums, joined}
use Rattle.digit_totals.specs.Totals.{adding}
use Rattle.digit_totals.proofs.quick.add_integer_lines.Given as goal

abbrev pub invariant-loop-sums : goal.invariant-loop-sums
invariant-loop-sums l = record {
  added : Leaves (adding l.options) l.totals l.text (joined l.totals l.sums) l.rest;
  near : IsNear l.sums.count l.sums.sum;
  few : l.sums.count ≤ 16;
  empty : l.sums.count ≡ 0 → l.sums ≡ no_sums;
}

abbrev pub decreases-loop-sums : goal.decreases-loop-sums
decreases-loop-sums l = length l.rest
