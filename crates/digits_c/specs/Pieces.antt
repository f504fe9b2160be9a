-- Lists of numbers in a piece of a text, as C has them.
use Rattle.std.specs.Prelude.{◌≡◌, ℕ, ℤ, ◌-◌, ◌^◌, ◌==◌, Bool, true, false, ◌&&◌, ◌||◌, nat_lt, if◌then◌else◌, List, [], length, take, drop, Option, None, Some, Result}
use Rattle.std.specs.Float.{Float, Format}
use Rattle.digit_amounts.specs.Prices.{price_by}
use Rattle.digit_numbers.specs.Follows.{is_number_byte}
use Rattle.digit_pieces.specs.Cuts.{is_float_byte, is_integer_byte, is_scaled_byte, sure_end}
use Rattle.digit_pieces.specs.Pieces.{piece_at}
use Rattle.digit_pieces.specs.declared.piece.PieceEnd.{PieceEnd}
use Rattle.digit_pieces.specs.declared.piece.PieceEnd.TheVariants.{More, Full, Over, Fault}
use Rattle.digits.specs.Words.{Form, literal_none_at, float_none_at, number_none_at, price_none_at, scaled_none_at}
use Rattle.digits.specs.Words.{Integer, STANDARD, is_supported, number_at, plain_marks, read_at, rule_of}
use Rattle.digits.specs.Words.{read_scaled_at}
use Rattle.digits_c.specs.declared.numbers.NumberParts.{NumberParts}
use Rattle.digits_c.specs.declared.outcome.Outcome.{Outcome}
use Rattle.digits_c.specs.declared.outcome.TheConstants.{BAD_FORM, BAD_PLACES, BAD_START, BAD_WORD, FULL, MORE, TOO_LONG}
use Rattle.digits_c.specs.Calls.{groups_word, is_decimal}
use Rattle.digits_c.specs.Lists.{gap_of}
use Rattle.digits_c.specs.Numbers.{parts_at}
use Rattle.digits_c.specs.Outcomes.{done, fault, literal_fault, float_fault, number_fault, price_fault, scaled_fault}

-- why a piece was read no further
abbrev pub end_of : {E : Type 0} → (E → Outcome) → PieceEnd E → Outcome
end_of fault_of (More at) = fault MORE at
end_of fault_of (Full at) = fault FULL at
end_of fault_of (Over at) = done at
end_of fault_of (Fault error) = fault_of error

abbrev pub with_outcome : {A E : Type 0} → (E → Outcome) → List A × PieceEnd E → List A × Outcome
with_outcome fault_of (numbers, end) = (numbers, end_of fault_of end)

-- the numbers of a piece at a start, as many as there is room for, and why there are no more
module _ (text : List ℕ) (start between : ℕ) (is_last : Bool) (room : ℕ) where
  abbrev pub piece_by : {A E : Type 0} → (E → Outcome) → (ℕ → E → Bool) → (ℕ → Bool)
      → (ℕ → Result (A × ℕ) E) → List A × Outcome
  piece_by fault_of none_at has one =
      if nat_lt (length text) start then ([], fault BAD_START start)
      else with_outcome fault_of
      (piece_at one none_at (gap_of between) text (sure_end has text) is_last room start)

  abbrev pub integers_in : ℕ → ℕ → List ℤ × Outcome
  integers_in least most =
      piece_by literal_fault literal_none_at (is_integer_byte least STANDARD)
      (number_at least most (rule_of STANDARD Integer) text)

  abbrev pub floats_in : Format → List Float × Outcome
  floats_in f =
      piece_by float_fault float_none_at (is_float_byte STANDARD plain_marks)
      (read_at STANDARD text plain_marks f)

  -- decimal numbers, times ten to the power `places`
  abbrev pub scaled_in : ℕ → ℕ → ℕ → List ℤ × Outcome
  scaled_in least most places =
      if nat_lt 38 places then ([], fault BAD_PLACES start)
      else piece_by scaled_fault scaled_none_at (is_scaled_byte STANDARD 46)
      (read_scaled_at STANDARD text 46 places least most)

  -- prices with exactly so many places, in groups of three digits if there is a separator
  abbrev pub prices_in : ℕ → ℕ → ℕ → ℕ → ℕ → List ℤ × Outcome
  prices_in least most separator point places =
      let word = groups_word separator in
      if is_supported word && is_decimal word
      then if nat_lt 38 places then ([], fault BAD_PLACES start)
      else piece_by price_fault price_none_at (is_scaled_byte word point)
      (price_by true (nat_lt 0 separator) word text point places least most)
      else ([], fault BAD_WORD start)

  abbrev pub numbers_in : Form → List NumberParts × Outcome
  numbers_in form =
      piece_by number_fault number_none_at (is_number_byte form) (parts_at form text)

  -- the same by a form that has a number, or has none
  abbrev pub numbers_in_by : Option Form → List NumberParts × Outcome
  numbers_in_by None = ([], fault BAD_FORM start)
  numbers_in_by (Some form) = numbers_in form

-- whether a byte may be in a number by a word: in a float, if the word has floats
abbrev pub is_byte_by : ℕ → ℕ → Bool
is_byte_by word byte =
    if is_decimal word then is_float_byte word plain_marks byte
    else is_integer_byte (2 ^ 63) word byte

-- up to where a text is sure: what a read at a start before it answers stays, whatever follows
module _ (text : List ℕ) where
  abbrev pub sure_by : ℕ → ℕ
  sure_by word = if is_supported word then sure_end (is_byte_by word) text else 0

  abbrev pub sure_of : Option Form → ℕ
  sure_of None = 0
  sure_of (Some form) = sure_end (is_number_byte form) text

-- ---- what is kept of a piece, which is at the front of a room

-- whether a position is after a piece of so many bytes, or the piece is longer than the room
abbrev pub is_beyond : ℕ → ℕ → ℕ → Bool
is_beyond at count room = nat_lt count at || nat_lt room count

-- the outcome where so many bytes are kept: if they fill the room, no more of the text has place
abbrev pub kept_outcome : Outcome → ℕ → ℕ → Outcome
kept_outcome list kept room =
    if (list.status == MORE) && (kept == room) then fault TOO_LONG list.at else list

-- The bytes of a piece from where it was read no further are at the front of the room, as many as
-- `kept`, and what is behind them is what it was.
pub record Keeps (list : Outcome) (old new : List ℕ) (count kept : ℕ) (outcome : Outcome)
    : Type 0 where
  pub all : kept ≡ count - list.at
  pub bytes : take kept new ≡ take kept (drop list.at old)
  pub rest : drop kept new ≡ drop kept old
  pub ends : outcome ≡ kept_outcome list kept (length old)

-- the same, unless there are no such bytes: then nothing is moved
abbrev pub KeepsUnless : Bool → Outcome → List ℕ → List ℕ → ℕ → ℕ → Outcome → Type 0
KeepsUnless true list old new count kept outcome =
    (new ≡ old) × (kept ≡ count) × (outcome ≡ fault BAD_START list.at)
KeepsUnless false list old new count kept outcome = Keeps list old new count kept outcome
