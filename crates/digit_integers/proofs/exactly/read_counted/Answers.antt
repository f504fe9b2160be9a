use Rattle.digit_integers.proofs.Counts.{counted_below, number_below}
use Rattle.digit_integers.proofs.exactly.read_counted.Goals as goal

pub returns-else-read-few-clause-below : goal.returns-else-read-few-clause-below
returns-else-read-few-clause-below g c =
    let read = c.count_up_to-read in
    number_below c.args.radix read.result.value read.result.count c.args.start _
    c.of_magnitude.ensures
    (counted_below c.args.radix _ _ read.result.value read.result.count read.result.is_too_large
    c.if-read.false read.ensures)
