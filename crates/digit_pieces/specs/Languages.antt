-- A literal of a language, and why there is none, with positions that count from another start.
pub use Rattle.digit_languages.specs.Moves.{language_later, read_later}
