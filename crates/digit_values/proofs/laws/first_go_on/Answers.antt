use Rattle.digit_values.proofs.ForCallers.{first_of_others}
use Rattle.digit_values.proofs.laws.first_go_on.Goals as goal

pub returns : goal.returns
returns c = λ r others all same of reads.
    first_of_others r c.args.most c.args.before.value all c.args.read reads c.args.radix
    c.args.digits same c.requires.some c.requires.power c.args.before.dropped others of
