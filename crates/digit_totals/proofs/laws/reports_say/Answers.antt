use Rattle.digit_totals.specs.Meaning.{AreTotalsOf}
use Rattle.digit_totals.specs.Totals.{adding}
use Rattle.digit_totals.proofs.Meaning.{totals_say, number_says, long_says}
use Rattle.digit_totals.proofs.Order.{counts, totals_are, sum_is}
use Rattle.digit_totals.proofs.laws.reports_say.Goals as goal

pub returns-clause-totals : goal.returns-clause-totals
returns-clause-totals c = λ options text t e.
    totals_say (adding options) (counts options) AreTotalsOf (totals_are options) text t e

pub returns-clause-number : goal.returns-clause-number
returns-clause-number c = λ options text n error e.
    number_says (adding options) (counts options) text n error e

pub returns-clause-sum : goal.returns-clause-sum
returns-clause-sum c = λ options text n e. sum_is options text n e

pub returns-clause-long : goal.returns-clause-long
returns-clause-long c = λ options text n e.
    long_says (adding options) (counts options) text n e
