use Rattle.digit_words.proofs.WordOfDigits.{number_is, few_number}
use Rattle.digit_words.proofs.eight.value_of.Goals as goal

pub returns-clause-is : goal.returns-clause-is
returns-clause-is c = number_is c.args.digits c.requires

pub returns-clause-below : goal.returns-clause-below
returns-clause-below c =
    rw (number_is c.args.digits c.requires) (few_number c.args.digits c.requires)
