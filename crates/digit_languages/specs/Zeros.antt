-- What `01` is.
use Rattle.std.specs.Prelude.{ℕ, codes, Result, Ok}
use Rattle.digit_languages.specs.declared.language.Language.{Language}
use Rattle.digit_languages.specs.declared.literal.Literal.{Literal}
use Rattle.digit_languages.specs.declared.literal.LanguageError.{LanguageError}
use Rattle.digit_languages.specs.Literals.{literal_at}

-- by a language, as a `u8`
abbrev pub zero_one : Language → Result Literal LanguageError
zero_one l = literal_at l (codes "01") 0 255

-- 1, read by a word
abbrev pub one_by : ℕ → Result Literal LanguageError
one_by word = Ok (record { value = 1; word = word; digits = 0; end = 2 })
