-- Words of contracts that are of the crates below.
pub use Rattle.digit_integers.specs.Integers.{value_to, first_over, IsIntegerFrom, HasNoDigitFrom}
pub use Rattle.digit_integers.specs.Integers.{IsTooLargeFrom}
unfoldable pub use Rattle.digit_integers.specs.Integers.{integer_at}
