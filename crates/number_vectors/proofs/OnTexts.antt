-- What a proof unfolds to compute at digits before a comma.
use Rattle.std.specs.Prelude.{⊤}
use Rattle.lexical_format.specs.Digits.{digit_value}
use Rattle.lexical_digits.specs.Separators.{is_digit, is_separator}

unfoldable pub on_digits : ⊤
unfolding digit_value is_digit is_separator
on_digits = tt
