-- Words of contracts that are of the crates below.
pub use Rattle.digit_integers.specs.Numbers.{signed, with_sign, is_negative_from, digits_from}
pub use Rattle.digit_integers.specs.Numbers.{most_from, number_at, to_end}
pub use Rattle.digit_values.specs.Bytes.{has_byte}
