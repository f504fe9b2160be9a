-- The lines so far are added.
use Rattle.std.proofs.Common.{length}
use Rattle.digit_totals.specs.Report.{Leaves}
use Rattle.digit_totals.proofs.lines.add_lines.Given as goal

abbrev pub invariant-loop-line : goal.invariant-loop-line
invariant-loop-line g l =
    Leaves (g.K.Adds.adding l.fn.options) l.fn.totals l.fn.text l.added.totals l.added.rest.now

abbrev pub decreases-loop-line : goal.decreases-loop-line
decreases-loop-line g l = length l.added.rest.now
