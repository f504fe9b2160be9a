use Rattle.digit_numbers.proofs.Large.{large_some}
use Rattle.digit_numbers.proofs.float.read_large.Goals as goal

pub returns-clause-some : goal.returns-clause-some
returns-clause-some g c =
    large_some c.args.word c.args.text.now c.args.at c.args.over c.requires.large
