use Rattle.digit_values.proofs.ForCallers.{first_digits}
use Rattle.digit_values.proofs.laws.first_are_significant.Goals as goal

pub returns : goal.returns
returns c = λ r before read all same none reads.
    first_digits r c.args.most before all read reads c.args.radix c.args.digits same
    c.requires.some c.requires.power none
