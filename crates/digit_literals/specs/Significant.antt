-- Words of contracts that are of the crates below.
pub use Rattle.digit_values.specs.Significant.{IsOfFirstDigits}
unfoldable pub use Rattle.digit_values.specs.Significant.{significant}
