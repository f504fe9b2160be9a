-- Words of contracts that are of the crates below.
pub use Rattle.digit_values.specs.After.{digits_between, ExceedsAt, PassesAt, digits_to}
pub use Rattle.digit_values.specs.After.{past_digits_to, IsDigits, IsReadTo, digits_read}
