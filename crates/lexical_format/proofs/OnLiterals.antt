-- What a proof unfolds to compute `is_supported` at a word that is written out.
use Rattle.std.specs.Prelude.{⊤}
use Rattle.lexical_format.specs.Digits.{digit_value}

unfoldable pub lexical_on_literals : ⊤
unfolding digit_value
lexical_on_literals = tt
