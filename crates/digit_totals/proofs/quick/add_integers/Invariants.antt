-- The lines so far are added.
use Rattle.digit_totals.specs.Report.{Leaves}
use Rattle.digit_totals.specs.Totals.{adding}
use Rattle.digit_totals.proofs.quick.add_integers.Given as goal

abbrev pub invariant-loop-added : goal.invariant-loop-added
invariant-loop-added l =
    Leaves (adding l.options) l.fn.totals l.text l.added.totals l.added.rest.now

abbrev pub decreases-loop-added : goal.decreases-loop-added
decreases-loop-added l = l.left
