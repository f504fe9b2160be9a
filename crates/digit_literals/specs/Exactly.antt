-- Words of contracts that are of the crates below.
pub use Rattle.digit_integers.specs.Exactly.{leading_digits, value_and, fitting, exactly_at}
pub use Rattle.digit_integers.specs.Exactly.{at_most_at, IsCounted}
unfoldable pub use Rattle.digit_integers.specs.Exactly.{counted_at}
