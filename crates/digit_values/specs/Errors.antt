-- What an error of an integer holds, and what is printed of it.
use Rattle.std.specs.Prelude.{ℕ, ◌==◌, Bool, false, List, ◌++◌, codes, decimal}
use Rattle.digit_values.specs.declared.LiteralError.{LiteralError}
use Rattle.digit_values.specs.declared.LiteralError.TheVariants as literal

-- the position that it holds
abbrev pub literal_position : LiteralError → ℕ
literal_position (literal.Empty at) = at
literal_position (literal.Overflow at) = at

-- whether it says that no number begins at a position
abbrev pub literal_none_at : ℕ → LiteralError → Bool
literal_none_at place (literal.Empty at) = at == place
literal_none_at place (literal.Overflow at) = false

abbrev pub literal_message : LiteralError → List ℕ
literal_message (literal.Empty at) = codes "there is no digit at " ++ decimal at
literal_message (literal.Overflow at) =
    codes "the number is too large with the digit at " ++ decimal at
