-- The constants of the crate's root, for a file of specs/.
pub use Rattle.lexical_format.specs.declared.TheConstants.{STANDARD}
pub use Rattle.lexical_format.specs.declared.TheConstants.{INTEGER_INTERNAL_DIGIT_SEPARATOR}
pub use Rattle.lexical_format.specs.declared.TheConstants.{FRACTION_INTERNAL_DIGIT_SEPARATOR}
pub use Rattle.lexical_format.specs.declared.TheConstants.{EXPONENT_INTERNAL_DIGIT_SEPARATOR}
pub use Rattle.lexical_format.specs.declared.builder.TheConstants.{ALL_FLAGS, DECIMAL, NO_FLAGS}
pub use Rattle.digit_values.specs.declared.bytes.TheConstants.{BLANKS}
pub use Rattle.digit_literals.specs.declared.list.TheConstants.{COMMAS, COMMAS_IN_LINE, LINES}
pub use Rattle.digit_literals.specs.declared.list.TheConstants.{SPACES, SPACES_IN_LINE, WHITESPACE}
pub use Rattle.digit_writers.specs.declared.types.TheConstants.{MOST_ROOM}
pub use Rattle.decimal_writers.specs.declared.room.TheConstants.{FLOAT_ROOM}
pub use Rattle.float_writers.specs.declared.write.TheConstants.{PLAIN_ROOM}
