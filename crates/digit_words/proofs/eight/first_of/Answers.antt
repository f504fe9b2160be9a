use Rattle.std.proofs.Common.{◌∙◌, refl}
use Rattle.digit_words.proofs.ShiftedWord.{front_is}
use Rattle.digit_words.proofs.eight.first_of.Goals as goal

pub value_of-requires : goal.value_of-requires
value_of-requires c =
    (front_is c.args.count _ c.args.digits c.requires.few c.requires.below refl).0

pub returns-clause-is : goal.returns-clause-is
returns-clause-is c =
    c.value_of.ensures.is
    ∙ (front_is c.args.count _ c.args.digits c.requires.few c.requires.below refl).1
