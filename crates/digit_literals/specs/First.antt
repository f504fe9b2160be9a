-- Words of contracts that are of the crates below.
pub use Rattle.digit_values.specs.First.{ReadsFirst, ReadsFirstFrom}
