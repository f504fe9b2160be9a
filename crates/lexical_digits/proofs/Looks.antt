-- What looking costs: where separators stand, the span that is judged, and what a read owes.
pub mod WhereSeparatorsStand
pub mod Spans
pub mod Owed
pub mod Needed
