use Rattle.std.proofs.Common.{◌∙◌, refl}
use Rattle.digit_words.proofs.ShiftedWord.{few_is}
use Rattle.digit_words.proofs.eight.one_to_eight_of.Goals as goal

pub value_of-requires : goal.value_of-requires
value_of-requires c =
    (few_is c.args.count _ c.args.digits c.requires.few c.requires.below refl).0

pub returns-clause-is : goal.returns-clause-is
returns-clause-is c =
    c.value_of.ensures.is
    ∙ (few_is c.args.count _ c.args.digits c.requires.few c.requires.below refl).1
