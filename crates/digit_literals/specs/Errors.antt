-- Words of contracts that are of the crates below.
pub use Rattle.digit_values.specs.Errors.{literal_position, literal_none_at, literal_message}
pub use Rattle.digit_integers.specs.Errors.{position, message, parse_error}
