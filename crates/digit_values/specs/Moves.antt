-- Why there is no integer, with a position that counts from another start.
use Rattle.std.specs.Prelude.{ℕ, ◌+◌}
use Rattle.digit_values.specs.declared.LiteralError.{LiteralError}
use Rattle.digit_values.specs.declared.LiteralError.TheVariants.{Empty, Overflow}

-- an error with its position so much later
abbrev pub literal_later : ℕ → LiteralError → LiteralError
literal_later by (Empty at) = Empty (by + at)
literal_later by (Overflow at) = Overflow (by + at)
