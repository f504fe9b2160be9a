-- A number of any integer type: digits, and a sign before them if the type has one.
use Rattle.std.specs.Prelude.{ℕ, ℤ, pos, neg_ℤ, ◌+◌, Bool, ◌==◌, ◌&&◌, ◌||◌, nat_lt, if◌then◌else◌, List, length, Result, Ok, Err}
use Rattle.lexical_digits.specs.declared.skip.rule.Rule.{Rule}
use Rattle.digit_values.specs.declared.LiteralError.{LiteralError}
use Rattle.digit_values.specs.declared.LiteralError.TheVariants as literal
use Rattle.digit_integers.specs.declared.parse.ParseError.{ParseError}
use Rattle.digit_integers.specs.declared.parse.ParseError.TheVariants.{Empty, Invalid, Overflow}
use Rattle.digit_integers.specs.Integers.{integer_at}
use Rattle.digit_values.specs.Bytes.{has_byte}

-- a magnitude with its sign
abbrev pub signed : Bool → ℕ → ℤ
signed negative magnitude = if negative then neg_ℤ (pos magnitude) else pos magnitude

-- an integer with a sign before it
abbrev pub with_sign : Bool → Result (ℕ × ℕ) LiteralError → Result (ℤ × ℕ) LiteralError
with_sign negative (Ok (magnitude, end)) = Ok (signed negative magnitude, end)
with_sign negative (Err error) = Err error

-- The type's numbers are from `- least` to `most`. It has a sign if `least` is not 0.

-- whether a number at a position is negative
abbrev pub is_negative_from : ℕ → List ℕ → ℕ → Bool
is_negative_from least text start = nat_lt 0 least && has_byte text start 45

-- where its digits begin: after the sign, a `-` or a `+`
abbrev pub digits_from : ℕ → List ℕ → ℕ → ℕ
digits_from least text start =
    if nat_lt 0 least && (has_byte text start 45 || has_byte text start 43)
    then start + 1 else start

module _ (least most : ℕ) (rule : Rule) (text : List ℕ) (start : ℕ) where
  -- its greatest magnitude
  abbrev pub most_from : ℕ
  most_from = if is_negative_from least text start then least else most

  -- the number that begins here, and where it ends, or why there is none
  abbrev pub number_at : Result (ℤ × ℕ) LiteralError
  number_at = with_sign (is_negative_from least text start)
      (integer_at rule text (digits_from least text start) most_from)

-- ---- of a text to its end

-- what was read, if nothing follows it; otherwise the first fault of the text
abbrev pub to_end : {T : Type 0} → List ℕ → Result (T × ℕ) LiteralError → Result T ParseError
to_end text (Ok (value, end)) = if end == length text then Ok value else Err (Invalid end)
to_end text (Err (literal.Empty at)) =
    if at == length text then Err (Empty at) else Err (Invalid at)
to_end text (Err (literal.Overflow at)) = Err (Overflow at)
