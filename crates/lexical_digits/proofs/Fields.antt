-- What the fields of a `Bytes` stand for while it reads.
pub mod CarriedByCursor
pub mod AtTheCursor
pub mod DirectBytes
pub mod InnerSeparator
