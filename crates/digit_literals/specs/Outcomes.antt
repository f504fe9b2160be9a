-- Words of contracts that are of the crates below.
pub use Rattle.digit_values.specs.Outcomes.{IfEmpty, IfOverflow, digits, value_with, ReadsAfter}
pub use Rattle.digit_values.specs.Outcomes.{ExceedsMost, StopsAt, ReadsAll, FindsNone, PassesMost}
pub use Rattle.digit_values.specs.Outcomes.{OverflowsAt}
