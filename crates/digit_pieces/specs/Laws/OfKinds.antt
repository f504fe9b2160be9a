-- The laws of the kinds of numbers.
use Rattle.std.proofs.Common.{◌≡◌, ℕ, ◌+◌, ◌≤◌, List, length, drop, refl, sym, ap, add_assoc, arith}
use Rattle.std.specs.Float.{Format}
use Rattle.lexical_digits.specs.State.{rule_of}
use Rattle.lexical_digits.specs.declared.skip.component.Component.TheVariants.{Integer}
use Rattle.digit_values.specs.Errors.{literal_none_at, literal_position}
use Rattle.digit_integers.specs.Numbers.{number_at}
use Rattle.digit_values.specs.declared.LiteralError.{LiteralError}
use Rattle.digit_values.specs.declared.LiteralError.TheVariants as integers
use Rattle.digit_integers.proofs.BothSides.{moved_number}
use Rattle.digit_floats.proofs.BothSides.{moved_float}
use Rattle.digit_amounts.proofs.BothSides.{moved_scaled}
use Rattle.digit_floats.specs.Errors.{none_at, position}
use Rattle.digit_floats.specs.Float.{read_at}
use Rattle.digit_amounts.specs.Scaled.{read_scaled_at}
use Rattle.digit_amounts.specs.Scaled as scaled
use Rattle.digit_floats.specs.declared.error.FloatError.{FloatError}
use Rattle.digit_floats.specs.declared.error.FloatError.TheVariants as floats
use Rattle.digit_floats.specs.declared.parts.Marks.{Marks}
use Rattle.digit_amounts.specs.declared.scaled.ScaledError.{ScaledError}
use Rattle.digit_amounts.specs.declared.scaled.ScaledError.TheVariants as errors
use Rattle.digit_pieces.specs.Cuts.{is_integer_byte, is_scaled_byte, is_float_byte}
use Rattle.digit_pieces.specs.Moves.{byte_before, IsFresh, outcome_later, literal_later, float_later, scaled_later}
use Rattle.digit_pieces.specs.Laws.NoBytes.{no_integer, no_scaled, no_float, same_place}
pub use Rattle.digit_pieces.specs.Laws.Following.{integer_follows, float_follows, scaled_follows}
pub use Rattle.digit_pieces.specs.Laws.Ends.{integer_ends, float_ends, scaled_ends}

-- ---- what is before

pub integer_precedes : (least most word : ℕ) (text : List ℕ) (from at : ℕ)
    → from + at ≤ length text → IsFresh (is_integer_byte least word) text from
    → number_at least most (rule_of word Integer) text (from + at)
    ≡ outcome_later literal_later from
    (number_at least most (rule_of word Integer) (drop from text) at)
integer_precedes least most word text from at within fresh =
    moved_number (rule_of word Integer) text from (omega arith)
    (no_integer least word (byte_before text from) fresh) least most at

pub float_precedes : (word : ℕ) (marks : Marks) (f : Format) (text : List ℕ) (from at : ℕ)
    → from + at ≤ length text → IsFresh (is_float_byte word marks) text from
    → read_at word text marks f (from + at)
    ≡ outcome_later float_later from (read_at word (drop from text) marks f at)
float_precedes word marks f text from at within fresh =
    moved_float word text from (omega arith) marks
    (no_float word marks (byte_before text from) fresh) at f

pub scaled_precedes : (word point places least most : ℕ) (text : List ℕ) (from at : ℕ)
    → from + at ≤ length text → IsFresh (is_scaled_byte word point) text from
    → read_scaled_at word text point places least most (from + at)
    ≡ outcome_later scaled_later from
    (read_scaled_at word (drop from text) point places least most at)
scaled_precedes word point places least most text from at within fresh =
    moved_scaled word text from (omega arith) point
    (no_scaled word point (byte_before text from) fresh) places least most at

-- ---- the position of an error

pub literal_later_at : (by : ℕ) (e : LiteralError)
    → literal_position (literal_later by e) ≡ by + literal_position e
literal_later_at by (integers.Empty at) = refl
literal_later_at by (integers.Overflow at) = refl

pub float_later_at : (by : ℕ) (e : FloatError) → position (float_later by e) ≡ by + position e
float_later_at by (floats.Empty at) = refl
float_later_at by (floats.EmptyExponent at) = refl
float_later_at by (floats.Invalid at) = refl

pub scaled_later_at : (by : ℕ) (e : ScaledError)
    → scaled.position (scaled_later by e) ≡ by + scaled.position e
scaled_later_at by (errors.Empty at) = refl
scaled_later_at by (errors.TooLarge at) = refl
scaled_later_at by (errors.TooFine at) = refl
scaled_later_at by (errors.Invalid at) = refl

-- ---- whether an error says that no number begins at a position

pub literal_none_later : (by place : ℕ) (e : LiteralError)
    → literal_none_at (by + place) (literal_later by e) ≡ literal_none_at place e
literal_none_later by place (integers.Empty at) = same_place by at place
literal_none_later by place (integers.Overflow at) = refl

pub float_none_later : (by place : ℕ) (e : FloatError)
    → none_at (by + place) (float_later by e) ≡ none_at place e
float_none_later by place (floats.Empty at) = same_place by at place
float_none_later by place (floats.EmptyExponent at) = refl
float_none_later by place (floats.Invalid at) = refl

pub scaled_none_later : (by place : ℕ) (e : ScaledError)
    → scaled.none_at (by + place) (scaled_later by e) ≡ scaled.none_at place e
scaled_none_later by place (errors.Empty at) = same_place by at place
scaled_none_later by place (errors.TooLarge at) = refl
scaled_none_later by place (errors.TooFine at) = refl
scaled_none_later by place (errors.Invalid at) = refl

-- ---- an error that is later twice

pub literal_later_more : (by more : ℕ) (e : LiteralError)
    → literal_later by (literal_later more e) ≡ literal_later (by + more) e
literal_later_more by more (integers.Empty at) = ap integers.Empty (sym (add_assoc by more at))
literal_later_more by more (integers.Overflow at) =
    ap integers.Overflow (sym (add_assoc by more at))

pub float_later_more : (by more : ℕ) (e : FloatError)
    → float_later by (float_later more e) ≡ float_later (by + more) e
float_later_more by more (floats.Empty at) = ap floats.Empty (sym (add_assoc by more at))
float_later_more by more (floats.EmptyExponent at) =
    ap floats.EmptyExponent (sym (add_assoc by more at))
float_later_more by more (floats.Invalid at) = ap floats.Invalid (sym (add_assoc by more at))

pub scaled_later_more : (by more : ℕ) (e : ScaledError)
    → scaled_later by (scaled_later more e) ≡ scaled_later (by + more) e
scaled_later_more by more (errors.Empty at) = ap errors.Empty (sym (add_assoc by more at))
scaled_later_more by more (errors.TooLarge at) = ap errors.TooLarge (sym (add_assoc by more at))
scaled_later_more by more (errors.TooFine at) = ap errors.TooFine (sym (add_assoc by more at))
scaled_later_more by more (errors.Invalid at) = ap errors.Invalid (sym (add_assoc by more at))
