-- What each call reads: a function of the text and the other arguments.
use Rattle.std.specs.Prelude.{ℕ, ℤ, Bool, ◌+◌, ◌*◌, ◌^◌, ◌==◌, ◌&&◌, true, nat_lt, if◌then◌else◌, List, length, Result, Ok, Err}
use Rattle.std.specs.Float.{Float, Format}
use Rattle.lexical_format.specs.Word.{mantissa_radix, exponent_radix}
use Rattle.digit_amounts.specs.Prices.{price_by}
use Rattle.digits.specs.Words.{Integer, is_supported, rule_of, number_at, to_end, read_at, parse_at, plain_marks, read_scaled_at, whole_of}
use Rattle.digits_c.specs.declared.outcome.Outcome.{Outcome}
use Rattle.digits_c.specs.declared.outcome.TheConstants.{BAD_START, BAD_WORD, BAD_PLACES, INVALID}
use Rattle.digits_c.specs.declared.word.Word.{Word}
use Rattle.digits_c.specs.Outcomes.{fault, literal_fault, parse_fault, float_fault, scaled_fault, price_fault}

-- a word by its halves
abbrev pub word_of : Word → ℕ
word_of w = w.low + w.high * 2 ^ 64

-- its mantissa and its exponent are decimal
abbrev pub is_decimal : ℕ → Bool
is_decimal word = (mantissa_radix word == 10) && (exponent_radix word == 10)

-- what was read, with an outcome for an error
abbrev pub or_fault : {T E : Type 0} → (E → Outcome) → Result T E → Result T Outcome
or_fault fault_of (Ok read) = Ok read
or_fault fault_of (Err error) = Err (fault_of error)

-- the same of a whole text, whose number ends with it
abbrev pub whole_or_fault : {T E : Type 0} → List ℕ → (E → Outcome) → Result T E →
    Result (T × ℕ) Outcome
whole_or_fault text fault_of (Ok value) = Ok (value, length text)
whole_or_fault text fault_of (Err error) = Err (fault_of error)

-- what was read of a text, which has to end with it
abbrev pub all_of : {T : Type 0} → List ℕ → Result (T × ℕ) Outcome → Result (T × ℕ) Outcome
all_of text (Ok read) = if read.1 == length text then Ok read else Err (fault INVALID read.1)
all_of text (Err refused) = Err refused

-- what is read if the start is in the text
abbrev pub within : {T : Type 0} → List ℕ → ℕ → Result T Outcome → Result T Outcome
within text start read = if nat_lt (length text) start then Err (fault BAD_START start) else read

-- what is read if the word serves
abbrev pub by_word : {T : Type 0} → Bool → ℕ → Result T Outcome → Result T Outcome
by_word serves start read = if serves then read else Err (fault BAD_WORD start)

module _ (least most word : ℕ) (text : List ℕ) where
  -- an integer of a type, which has the numbers from `- least` to `most`
  abbrev pub integer_from : ℕ → Result (ℤ × ℕ) Outcome
  integer_from start =
      by_word (is_supported word) start (within text start (or_fault literal_fault
      (number_at least most (rule_of word Integer) text start)))

  abbrev pub whole_integer : Result (ℤ × ℕ) Outcome
  whole_integer =
      by_word (is_supported word) 0 (whole_or_fault text parse_fault
      (to_end text (number_at least most (rule_of word Integer) text 0)))

module _ (f : Format) (word : ℕ) (text : List ℕ) where
  -- a float
  unfoldable pub float_from : ℕ → Result (Float × ℕ) Outcome
  float_from start =
      by_word (is_supported word && is_decimal word) start (within text start (or_fault float_fault
      (read_at word text plain_marks f start)))

  unfoldable pub whole_float : Result (Float × ℕ) Outcome
  whole_float =
      by_word (is_supported word && is_decimal word) 0 (whole_or_fault text float_fault
      (parse_at word text plain_marks f 0))

module _ (least most word : ℕ) (text : List ℕ) (point places : ℕ) where
  -- a decimal number, times ten to the power `places`
  abbrev pub by_places : {T : Type 0} → ℕ → Result T Outcome → Result T Outcome
  by_places start read = if nat_lt 38 places then Err (fault BAD_PLACES start) else read

  abbrev pub scaled_from : ℕ → Result (ℤ × ℕ) Outcome
  scaled_from start =
      by_word (is_supported word && is_decimal word) start (by_places start (within text start
      (or_fault scaled_fault (read_scaled_at word text point places least most start))))

  abbrev pub whole_scaled : Result (ℤ × ℕ) Outcome
  whole_scaled =
      by_word (is_supported word && is_decimal word) 0 (by_places 0
      (whole_or_fault text scaled_fault
      (whole_of text (read_scaled_at word text point places least most 0))))

-- the word by which a price has its groups: decimal, and a separator between two digits of an
-- integer is dropped
abbrev pub groups_word : ℕ → ℕ
groups_word between = 10 * 2 ^ 104 + 2 ^ 32 + between * 2 ^ 64

module _ (is_grouped : Bool) (least most word : ℕ) (text : List ℕ) (point places : ℕ) where
  -- a price: a decimal number with exactly so many places, and maybe in groups of three digits
  abbrev pub price_from : ℕ → Result (ℤ × ℕ) Outcome
  price_from start =
      by_word (is_supported word && is_decimal word) start
      (by_places least most word text point places start (within text start
      (or_fault price_fault (price_by true is_grouped word text point places least most start))))

  abbrev pub whole_price : Result (ℤ × ℕ) Outcome
  whole_price = all_of text (price_from 0)
