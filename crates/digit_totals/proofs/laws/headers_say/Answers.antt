use Rattle.digit_totals.specs.Floats as floats
use Rattle.digit_totals.specs.Lines.{after_line}
use Rattle.digit_totals.specs.Meaning.{AreTotalsOf, AreFloatTotalsOf}
use Rattle.digit_totals.specs.Totals.{adding}
use Rattle.digit_totals.proofs.FloatOrder as of_floats
use Rattle.digit_totals.proofs.Header.{totals_after, fault_after}
use Rattle.digit_totals.proofs.Meaning.{totals_say}
use Rattle.digit_totals.proofs.Order.{counts, totals_are}
use Rattle.digit_totals.proofs.laws.headers_say.Goals as goal

pub returns-clause-totals : goal.returns-clause-totals
returns-clause-totals c = λ options text t header e.
    totals_say (adding options) (counts options) AreTotalsOf (totals_are options) (after_line text)
    t (totals_after (adding options) text t header e)

pub returns-clause-fault : goal.returns-clause-fault
returns-clause-fault c = λ options text fault header e.
    fault_after (adding options) text fault header e

pub returns-clause-float_totals : goal.returns-clause-float_totals
returns-clause-float_totals c = λ options text t header e.
    totals_say (floats.adding options) (of_floats.counts options) AreFloatTotalsOf
    (λ lines values have. of_floats.totals_of values) (after_line text) t
    (totals_after (floats.adding options) text t header e)

pub returns-clause-float_fault : goal.returns-clause-float_fault
returns-clause-float_fault c = λ options text fault header e.
    fault_after (floats.adding options) text fault header e
