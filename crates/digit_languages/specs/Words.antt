-- The words of a language.
use Rattle.std.specs.Prelude.{ℕ, Option, Some, None, IfSome, IsTrue}
use Rattle.lexical_format.specs.Word.{is_supported}
use Rattle.digit_languages.specs.declared.language.Language.{Language}
use Rattle.digit_languages.specs.declared.language.FirstZero.{FirstZero}
use Rattle.digit_languages.specs.declared.language.FirstZero.TheVariants.{Plain, Octal, Alone, Zeros}

-- by which word a first `0` has the literal read, if not by the decimal one
abbrev pub octal_of : FirstZero → Option ℕ
octal_of Plain = None
octal_of (Octal word) = Some word
octal_of Alone = None
octal_of Zeros = None

-- a word is supported
abbrev pub Serves : ℕ → Type 0
Serves word = IsTrue (is_supported word)

-- each of its words is supported
pub record IsLanguage (l : Language) : Type 0 where
  pub decimal : Serves l.decimal
  pub binary : IfSome l.binary Serves
  pub octal : IfSome l.octal Serves
  pub hexadecimal : IfSome l.hexadecimal Serves
  pub first_zero : IfSome (octal_of l.first_zero) Serves
