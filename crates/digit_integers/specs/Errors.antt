-- What an error holds, what is printed of it, and what it is as another one.
use Rattle.std.specs.Prelude.{ℕ, List, ◌++◌, codes, decimal}
use Rattle.digit_values.specs.declared.LiteralError.{LiteralError}
use Rattle.digit_values.specs.declared.LiteralError.TheVariants as literal
use Rattle.digit_integers.specs.declared.parse.ParseError.{ParseError}
use Rattle.digit_integers.specs.declared.parse.ParseError.TheVariants.{Empty, Invalid, Overflow}

-- ---- of an integer

-- ---- of a whole text

-- the position that it holds
abbrev pub position : ParseError → ℕ
position (Empty at) = at
position (Invalid at) = at
position (Overflow at) = at

abbrev pub message : ParseError → List ℕ
message (Empty at) = codes "there is no digit at " ++ decimal at
message (Invalid at) = codes "the byte at " ++ decimal at ++ codes " is no part of an integer"
message (Overflow at) = codes "the number is too large with the digit at " ++ decimal at

-- an integer's error as one of a whole text
abbrev pub parse_error : LiteralError → ParseError
parse_error (literal.Empty at) = Empty at
parse_error (literal.Overflow at) = Overflow at
