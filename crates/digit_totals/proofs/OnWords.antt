-- What a proof unfolds to compute that a constant word is supported, and the number of an argument.
use Rattle.std.specs.Prelude.{⊤}
use Rattle.lexical_format.proofs.OnLiterals.{lexical_on_literals}
use Rattle.digit_totals.specs.Arguments.{number_of}

unfoldable pub words : ⊤
unfolding lexical_on_literals
words = tt

unfoldable pub numbers : ⊤
unfolding lexical_on_literals number_of
numbers = tt
