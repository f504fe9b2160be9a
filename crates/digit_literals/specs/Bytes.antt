-- Words of contracts that are of the crates below.
pub use Rattle.digit_values.specs.Bytes.{has_byte, is_name_byte, expect_byte, has_bytes}
pub use Rattle.digit_values.specs.Bytes.{expect_bytes}
unfoldable pub use Rattle.digit_values.specs.Bytes.{past_bytes, name_end}
