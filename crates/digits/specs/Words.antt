-- The words of contracts over a text, under one name.
pub use Rattle.std.specs.Float.{binary32, binary64}
-- the format word, its components and separators
pub use Rattle.lexical_format.specs.declared.TheConstants.{STANDARD}
pub use Rattle.lexical_format.specs.Word.{is_supported}
pub use Rattle.lexical_format.specs.declared.builder.DigitSeparatorFlags.{DigitSeparatorFlags}
pub use Rattle.lexical_format.specs.declared.builder.NumberFormatBuilder.{NumberFormatBuilder}
pub use Rattle.lexical_digits.specs.State.{rule_of}
unfoldable pub use Rattle.lexical_digits.specs.Separators.{is_digit}
unfoldable pub use Rattle.lexical_digits.specs.Stop.{stop}
pub use Rattle.lexical_digits.specs.ByteSet.{accepts}
pub use Rattle.lexical_digits.specs.declared.ops.ByteSet.{ByteSet}
pub use Rattle.lexical_digits.specs.declared.skip.rule.Rule.{Rule}
pub use Rattle.lexical_digits.specs.declared.skip.component.Component.{Component}
pub use Rattle.lexical_digits.specs.declared.skip.component.Component.TheVariants.{Integer, Fraction, Exponent}
-- integers
pub use Rattle.digit_values.specs.declared.LiteralError.{LiteralError}
pub use Rattle.digit_integers.specs.declared.parse.ParseError.{ParseError}
pub use Rattle.digit_languages.specs.declared.language.Language.{Language}
pub use Rattle.digit_languages.specs.declared.literal.LanguageError.{LanguageError}
pub use Rattle.digit_values.specs.After.{digits_between}
pub use Rattle.digit_values.specs.Bytes.{expect_byte, expect_bytes, has_bytes}
unfoldable pub use Rattle.digit_values.specs.Bytes.{name_end, past_bytes}
pub use Rattle.digit_integers.specs.Exactly.{at_most_at, exactly_at}
unfoldable pub use Rattle.digit_integers.specs.Exactly.{counted_at}
unfoldable pub use Rattle.digit_integers.specs.Integers.{integer_at}
pub use Rattle.digit_values.specs.Errors.{literal_none_at, literal_position}
pub use Rattle.digit_integers.specs.Errors.{position as parse_position}
pub use Rattle.digit_values.specs.Bytes.{has_byte}
pub use Rattle.digit_integers.specs.Numbers.{number_at, signed, to_end}
pub use Rattle.digit_languages.specs.declared.literal.Literal.{Literal}
pub use Rattle.digit_languages.specs.Literals.{literal_at, none_at as language_none_at, position as language_position, typed}
pub use Rattle.digit_languages.specs.Words.{IsLanguage}
-- lists
pub use Rattle.digit_literals.specs.declared.list.Gap.{Gap}
pub use Rattle.digit_literals.specs.declared.list.ListEnd.{ListEnd}
pub use Rattle.digit_literals.specs.declared.list.ListRead.{ListRead}
pub use Rattle.digit_literals.specs.Lists.{Fills, IfFull, IfOver, and_then, has_separator, next_after}
pub use Rattle.digit_literals.specs.Lists.{no_number}
unfoldable pub use Rattle.digit_literals.specs.Lists.{list_at, past_blanks}
-- floats and decimal numbers
pub use Rattle.digit_floats.specs.declared.decimal.Decimal.{Decimal}
pub use Rattle.digit_floats.specs.declared.error.FloatError.{FloatError}
pub use Rattle.digit_floats.specs.declared.parts.Marks.{Marks}
pub use Rattle.digit_amounts.specs.declared.scaled.ScaledError.{ScaledError}
pub use Rattle.digit_floats.specs.Decimals.{read_decimal_at}
pub use Rattle.digit_floats.specs.Errors.{none_at as float_none_at, position as float_position}
pub use Rattle.digit_floats.specs.Float.{IsDecimal, parse_at, plain_marks, read_at}
pub use Rattle.digit_amounts.specs.Scaled.{none_at as scaled_none_at, position as scaled_position}
pub use Rattle.digit_amounts.specs.Scaled.{read_scaled_at, whole_of}
unfoldable pub use Rattle.digit_amounts.specs.Scaled.{scaled_at}
-- numbers by a form
pub use Rattle.digit_numbers.specs.declared.form.Form.{Form}
pub use Rattle.digit_numbers.specs.declared.form.Special.{Special}
pub use Rattle.digit_numbers.specs.declared.form.Specials.{Specials}
pub use Rattle.digit_numbers.specs.declared.number.Number.{Number}
pub use Rattle.digit_numbers.specs.declared.number.NumberError.{NumberError}
pub use Rattle.digit_numbers.specs.Forms.{IsForm}
unfoldable pub use Rattle.digit_numbers.specs.Numbered.{form_of, format_form}
pub use Rattle.digit_numbers.specs.Decimals.{decimal_of_at}
pub use Rattle.digit_numbers.specs.Numbers.{number_of_at, to_end as number_to_end}
pub use Rattle.digit_numbers.specs.Values.{none_at as number_none_at, position, with_value}
pub use Rattle.digit_numbers.specs.Values.{float_in, integer_in}
-- texts in pieces, and streams
pub use Rattle.digit_numbers.specs.Follows.{is_number_byte}
pub use Rattle.digit_pieces.specs.declared.piece.PieceEnd.{PieceEnd}
pub use Rattle.digit_pieces.specs.declared.piece.PieceRead.{PieceRead}
pub use Rattle.digit_pieces.specs.Cuts.{is_integer_byte, is_float_byte, is_scaled_byte}
unfoldable pub use Rattle.digit_pieces.specs.Cuts.{sure_end}
pub use Rattle.digit_pieces.specs.Pieces.{FillsPiece, IfAt, and_full, and_more, as_piece, full_past, is_of_blanks, list_later}
unfoldable pub use Rattle.digit_pieces.specs.Pieces.{piece_at, whole_at}
pub use Rattle.digit_values.specs.Moves.{literal_later}
pub use Rattle.digit_floats.specs.Moves.{float_later}
pub use Rattle.digit_amounts.specs.Moves.{scaled_later}
pub use Rattle.digit_pieces.specs.declared.kinds.enclosed.BracketError.{BracketError}
pub use Rattle.digit_pieces.specs.Enclosed.{bracket_later, bracket_none_at, bracket_position, enclosed_at, is_enclosed_byte}
pub use Rattle.digit_pieces.specs.Texts.{IsApart, list_of, piece_of}
pub use Rattle.digit_pieces.specs.Apart.{IsShared, are_apart, is_between, is_pointed_byte, is_word_byte}
unfoldable pub use Rattle.digit_pieces.specs.Texts.{read_pieces}
-- what a `Kind` promises
pub use Rattle.digit_languages.specs.Follows.{AreSameBefore}
pub use Rattle.digit_pieces.specs.Moves.{IsFresh, outcome_later}
pub use Rattle.digit_blocks.specs.Blocks.{AreStarts, EndsApart, HasNoneAtEnd, HaveRoom, IsStart, as_list, block_of, piece_later, reach}
unfoldable pub use Rattle.digit_blocks.specs.Blocks.{blocks_at, joined, last_start}
pub use Rattle.digit_streams.specs.declared.stream.StreamEnd.{StreamEnd}
pub use Rattle.digit_streams.specs.declared.stream.StreamError.{StreamError}
pub use Rattle.digit_streams.specs.declared.fold.FoldError.{FoldError}
pub use Rattle.digit_streams.specs.declared.enclosed.EnclosedFoldError.{EnclosedFoldError}
pub use Rattle.digit_streams.specs.Enclosed.{Brackets, FoldsEnclosed, GivesEnclosed, ReadsEnclosed, StepsEnclosed, unstopped}
pub use Rattle.digit_streams.specs.Folds.{Folded, FoldsText, IfStopped, Makes, ReadsText, Steps, end_of_fold, stream_error}
pub use Rattle.digit_streams.specs.Errors.{enclosed_fault_at, fold_fault_at, stream_fault_at}
pub use Rattle.digit_streams.specs.Streams.{Gives, HasGiven, HasGivenFrom, IfReason, IfTrailing, IsNext, IsNoByte, IsUnknown}
pub use Rattle.digit_streams.specs.Streams.{Passes, SkipsBlanks, StreamNumbers, end_by, ended_after, reason_held, reason_of, stream_list}
-- whole lists, enclosed lists, numbers that may be missing, and prices
pub use Rattle.digit_lists.specs.declared.list.ListError.{ListError}
pub use Rattle.digit_lists.specs.declared.enclosed.EnclosedError.{EnclosedError}
pub use Rattle.digit_amounts.specs.declared.prices.PriceError.{PriceError}
pub use Rattle.digit_lists.specs.Lists.{Holds, enclosed, full_list, inside, parsed}
pub use Rattle.digit_lists.specs.Optional.{optional, with_meaning}
pub use Rattle.digit_lists.specs.Empty.{both_is_empty, float_is_empty, language_is_empty, literal_is_empty}
pub use Rattle.digit_lists.specs.Empty.{number_is_empty, scaled_is_empty}
pub use Rattle.digit_amounts.specs.Groups.{AreGroups, groups_at, wrong_at}
pub use Rattle.digit_amounts.specs.Prices.{exact_at, grouped_at, places_at, price_at, price_by, price_later}
pub use Rattle.digit_amounts.specs.Prices.{price_none_at, price_position}
pub use Rattle.digit_lists.specs.Empty.{price_is_empty}
-- numbers that are written
pub use Rattle.decimal_writers.specs.declared.exponent.ExponentText.{ExponentText}
pub use Rattle.decimal_writers.specs.declared.room.NoRoom.{NoRoom}
pub use Rattle.decimal_writers.specs.Fixed.{fixed_text}
pub use Rattle.decimal_writers.specs.Room.{Writes}
pub use Rattle.decimal_writers.specs.Scientific.{mark_text, rounded, scientific_text}
pub use Rattle.decimal_writers.specs.Value.{IsOfFloats}
pub use Rattle.digit_writers.specs.declared.layout.Layout.{Layout}
pub use Rattle.digit_writers.specs.Layouts.{IsReadBy, laid_out}
pub use Rattle.digit_writers.specs.Amounts.{ReadsAmounts, ReadsPrices}
pub use Rattle.digit_writers.specs.Lists.{IsSeparatorOf, IsListReadBy, list_text}
unfoldable pub use Rattle.digit_writers.specs.Lists.{others_text}
pub use Rattle.digit_writers.specs.Written.{IsOfRadix, IsShortest, Reads}
pub use Rattle.float_writers.specs.declared.write.FloatLayout.{FloatLayout}
pub use Rattle.float_writers.specs.declared.write.FloatTextError.{FloatTextError}
pub use Rattle.float_writers.specs.Write.{HasRoom, IsReason, IsTextOf, text_of}
pub use Rattle.form_writers.specs.declared.error.FormTextError.{FormTextError}
pub use Rattle.form_writers.specs.Numbers.{IsNumberOf, IsReason as IsFormReason, IsSame}
