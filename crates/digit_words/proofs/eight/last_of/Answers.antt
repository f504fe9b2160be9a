use Rattle.std.proofs.Common.{◌*◌, ◌-◌, ◌∙◌, arith}
use Rattle.digit_words.proofs.WordOfDigits.{not_wrapped}
use Rattle.digit_words.proofs.ShiftedWord.{last_is}
use Rattle.digit_words.proofs.eight.last_of.Goals as goal

pub value_of-requires : goal.value_of-requires
value_of-requires c =
    (last_is c.args.count _ c.args.digits (omega arith) c.requires.below
    (not_wrapped c.args.digits (64 - 8 * c.args.count) (omega arith))).0

pub returns-clause-is : goal.returns-clause-is
returns-clause-is c =
    c.value_of.ensures.is
    ∙ (last_is c.args.count _ c.args.digits (omega arith) c.requires.below
    (not_wrapped c.args.digits (64 - 8 * c.args.count) (omega arith))).1
