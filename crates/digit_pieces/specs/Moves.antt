-- Positions that count from another start: those of a text whose first bytes are gone.
pub use Rattle.lexical_digits.specs.Moves.{byte_before, IsFresh, outcome_later}
pub use Rattle.digit_values.specs.Moves.{literal_later}
pub use Rattle.digit_floats.specs.Moves.{float_later}
pub use Rattle.digit_amounts.specs.Moves.{scaled_later}
pub use Rattle.digit_numbers.specs.Moves.{number_later}
