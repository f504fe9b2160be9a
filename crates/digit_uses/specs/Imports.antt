-- Each import line of docs/PROVING.md, "Names in specs/". What it imports is used once.
use Rattle.std.specs.Prelude.{◌≡◌, ℕ, ◌+◌, Bool, List, [], ◌∷◌}
use Rattle.digits.specs.Constants.{STANDARD, COMMAS, BLANKS}
use Rattle.digits.specs.Formats.{PYTHON_LITERAL}
use Rattle.digits.specs.Languages.{RUST}
use Rattle.digits.specs.Forms.{JSON}
use Rattle.digits.specs.Names.{ANY_CASE}
use Rattle.digits.specs.Marks.{PLAIN}
use Rattle.digits.specs.Specials.{ABSENT}
use Rattle.digits.specs.LiteralErrors.{Empty}
use Rattle.digits.specs.ParseErrors.{Invalid}
use Rattle.digits.specs.LanguageErrors.{Zero}
use Rattle.digits.specs.FloatErrors.{EmptyExponent}
use Rattle.digits.specs.ScaledErrors.{TooFine}
use Rattle.digits.specs.NumberErrors.{Overflow}
use Rattle.digits.specs.Numbers.{Float}
use Rattle.digits.specs.ListEnds.{Over}
use Rattle.digits.specs.PieceEnds.{More}
use Rattle.digits.specs.BracketErrors.{NoOpening as no_opening}
use Rattle.digits.specs.StreamEnds.{Full}
use Rattle.digits.specs.StreamErrors.{NoRoom}
use Rattle.digits.specs.FoldErrors.{Stopped}
use Rattle.digits.specs.EnclosedFoldErrors.{NoClosing}
use Rattle.digits.specs.ListErrors.{NoRoom as no_room}
use Rattle.digits.specs.EnclosedErrors.{NoOpening}
use Rattle.digits.specs.PriceErrors.{Group}
use Rattle.digits.specs.KindLaws.{literal_later_at}
use Rattle.digits.specs.Words.{Gap, LiteralError, is_supported}
use Rattle.digits.specs.Words.{ByteSet, FloatError, Form, Language, LanguageError, ListEnd, Marks}
use Rattle.digits.specs.Words.{BracketError, EnclosedError, ListError, PieceEnd, PriceError, StreamEnd}
use Rattle.digits.specs.Words.{EnclosedFoldError, FoldError, StreamError, literal_later, literal_position}
use Rattle.digits.specs.Words.{Number, NumberError, ParseError, ScaledError, Special, Specials}
use Rattle.digit_uses.specs.declared.points.PointError.{PointError}
use Rattle.digit_uses.specs.declared.points.PointError.TheVariants.{NoColon}
use Rattle.digit_uses.specs.declared.calling.TheConstants.{COMMA_DIGITS}

abbrev pub constants : List ℕ × Gap × ByteSet × Language × Form × Specials × Marks × Special
constants =
    (STANDARD ∷ PYTHON_LITERAL ∷ [], COMMAS, BLANKS, RUST, JSON, ANY_CASE, PLAIN, ABSENT)

abbrev pub errors : LiteralError × ParseError × LanguageError × FloatError × ScaledError
    × NumberError
errors = (Empty 0, Invalid 0, Zero 0, EmptyExponent 0, TooFine 0, Overflow 0)

abbrev pub answers : Number ℕ × ListEnd ℕ × Bool
answers = (Float 0, Over 0, is_supported STANDARD)

abbrev pub pieces : PieceEnd ℕ × StreamEnd ℕ × StreamError ℕ × FoldError ℕ
    × EnclosedFoldError ℕ
pieces = (More 0, Full 0, NoRoom 0, Stopped 0, NoClosing 0)

abbrev pub lists : ListError ℕ × EnclosedError ℕ × PriceError × BracketError ℕ
lists = (no_room 0, NoOpening 0, Group 0, no_opening 0)

abbrev pub own : PointError × ℕ
own = (NoColon 0, COMMA_DIGITS)

abbrev pub law : (by : ℕ) (e : LiteralError)
    → literal_position (literal_later by e) ≡ by + literal_position e
law = literal_later_at
