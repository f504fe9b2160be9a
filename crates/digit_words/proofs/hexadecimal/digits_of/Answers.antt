use Rattle.std.proofs.Common.{◌/◌}
use Rattle.digit_words.proofs.HexadecimalWord.{halves_below, are_digits}
use Rattle.digit_words.proofs.hexadecimal.digits_of.Goals as goal

pub returns-then-bytes-word-clause-below : goal.returns-then-bytes-word-clause-below
returns-then-bytes-word-clause-below c = halves_below 8 _

pub returns-then-bytes-word-clause-is : goal.returns-then-bytes-word-clause-is
returns-then-bytes-word-clause-is c =
    are_digits c.args.word _ (c.args.word / 32) (halves_below 8 _) c.if-bytes-word.true
