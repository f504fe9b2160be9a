pub mod Constants
pub mod Words
-- the laws of integers, floats and scaled numbers, for a `Kind` of one's own
pub use Rattle.digit_pieces.specs.Laws.OfKinds as KindLaws
-- the constants of modules and types, and the variants of answers and errors, for a file of specs/
pub use Rattle.lexical_format.specs.declared.words.TheConstants as Formats
pub use Rattle.digit_values.specs.declared.bytes.TheConstants as Bytes
pub use Rattle.digit_literals.specs.declared.list.TheConstants as Gaps
pub use Rattle.digit_literals.specs.declared.list.ListEnd.TheVariants as ListEnds
pub use Rattle.digit_languages.specs.declared.languages.TheConstants as Languages
pub use Rattle.digit_numbers.specs.declared.forms.TheConstants as Forms
pub use Rattle.digit_numbers.specs.declared.names.TheConstants as Names
pub use Rattle.digit_floats.specs.declared.parts.TheConstants.Marks as Marks
pub use Rattle.digit_numbers.specs.declared.form.TheConstants.Special as Specials
pub use Rattle.digit_numbers.specs.declared.number.Number.TheVariants as Numbers
pub use Rattle.digit_values.specs.declared.LiteralError.TheVariants as LiteralErrors
pub use Rattle.digit_integers.specs.declared.parse.ParseError.TheVariants as ParseErrors
pub use Rattle.digit_languages.specs.declared.literal.LanguageError.TheVariants as LanguageErrors
pub use Rattle.digit_floats.specs.declared.error.FloatError.TheVariants as FloatErrors
pub use Rattle.digit_amounts.specs.declared.scaled.ScaledError.TheVariants as ScaledErrors
pub use Rattle.digit_numbers.specs.declared.number.NumberError.TheVariants as NumberErrors
pub use Rattle.digit_pieces.specs.declared.piece.PieceEnd.TheVariants as PieceEnds
pub use Rattle.digit_pieces.specs.declared.kinds.enclosed.BracketError.TheVariants as BracketErrors
pub use Rattle.digit_streams.specs.declared.stream.StreamEnd.TheVariants as StreamEnds
pub use Rattle.digit_streams.specs.declared.stream.StreamError.TheVariants as StreamErrors
pub use Rattle.digit_streams.specs.declared.fold.FoldError.TheVariants as FoldErrors
pub use Rattle.digit_streams.specs.declared.enclosed.EnclosedFoldError.TheVariants as EnclosedFoldErrors
pub use Rattle.digit_lists.specs.declared.list.ListError.TheVariants as ListErrors
pub use Rattle.digit_lists.specs.declared.enclosed.EnclosedError.TheVariants as EnclosedErrors
pub use Rattle.digit_amounts.specs.declared.prices.PriceError.TheVariants as PriceErrors
