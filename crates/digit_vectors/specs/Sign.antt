-- What the caller of the example takes for a sign.
use Rattle.std.specs.Prelude.{ℕ, Bool, not, ◌==◌, ◌&&◌, ◌||◌}
use Rattle.lexical_format.specs.Word.{separator}
use Rattle.lexical_digits.specs.Separators.{is_separator}
use Rattle.lexical_digits.specs.State.{State}

-- `+` or `-`, where it isn't the separator
abbrev pub is_sign : State → ℕ → Bool
is_sign s byte = ((byte == 43) || (byte == 45)) && not (is_separator (separator s.word) byte)
