use Rattle.digit_totals.specs.Floats.{adding}
use Rattle.digit_totals.specs.Meaning.{AreFloatTotalsOf}
use Rattle.digit_totals.proofs.FloatOrder.{counts, totals_of}
use Rattle.digit_totals.proofs.Meaning.{totals_say, number_says, long_says}
use Rattle.digit_totals.proofs.laws.float_reports_say.Goals as goal

pub returns-clause-totals : goal.returns-clause-totals
returns-clause-totals c = λ options text t e.
    totals_say (adding options) (counts options) AreFloatTotalsOf
    (λ lines values have. totals_of values) text t e

pub returns-clause-number : goal.returns-clause-number
returns-clause-number c = λ options text n error e.
    number_says (adding options) (counts options) text n error e

pub returns-clause-long : goal.returns-clause-long
returns-clause-long c = λ options text n e.
    long_says (adding options) (counts options) text n e
