-- Definitions that a proof unfolds together, to be named in an attribute.
use Rattle.std.specs.Prelude.{⊤}
use Rattle.lexical_format.specs.Digits.{digit_value}
use Rattle.lexical_digits.specs.Separators.{is_digit, is_kept, is_dropped, holds_separator}

-- which positions are kept
unfoldable pub keeping : ⊤
unfolding is_kept is_dropped holds_separator
keeping = tt

-- which bytes of a rule that is written out are digits
unfoldable pub digits_of_rule : ⊤
unfolding is_digit digit_value
digits_of_rule = tt
