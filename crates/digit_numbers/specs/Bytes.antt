-- Several bytes of a text, beside its numbers.
pub use Rattle.digit_values.specs.Bytes.{has_bytes, expect_bytes}
