-- What a proof unfolds to compute that constant words are supported, and a word of `specs/` beside.
use Rattle.std.specs.Prelude.{⊤}
use Rattle.digits.proofs.Literals.{lexical_on_literals}
use Rattle.digits.specs.Words.{form_of, format_form}
use Rattle.digits_c.specs.Calls.{float_from, whole_float}
use Rattle.digits_c.specs.Literals.{language_of}

unfoldable pub on_floats : ⊤
unfolding lexical_on_literals float_from whole_float
on_floats = tt

unfoldable pub on_forms : ⊤
unfolding lexical_on_literals form_of format_form
on_forms = tt

unfoldable pub on_languages : ⊤
unfolding lexical_on_literals language_of
on_languages = tt
