use Rattle.digit_words.proofs.HexadecimalWord.{number_is}
use Rattle.digit_words.proofs.hexadecimal.value_of.Goals as goal

pub returns : goal.returns
returns c = number_is c.args.digits c.requires
