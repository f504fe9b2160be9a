-- The number of a line has 128 bits.
use Rattle.std.proofs.Common.{◌≡◌, ℕ, ℤ, zero, suc, ◌-◌, ◌^◌, ◌≤◌, Bool, true, false, cond, List, slice_range, Ok, Err, Result, refl, arith}
use Rattle.std.proofs.lemmas.Bool.Decides.{nat_tests}
use Rattle.lexical_digits.specs.State.{rule_of}
use Rattle.lexical_digits.specs.declared.skip.component.Component.TheVariants.{Integer}
use Rattle.digit_values.specs.declared.LiteralError.{LiteralError}
use Rattle.digit_values.specs.declared.LiteralError.TheVariants as literal
use Rattle.digit_integers.specs.declared.parse.ParseError.{ParseError}
use Rattle.digit_values.specs.declared.bytes.TheConstants.{BLANKS}
use Rattle.digit_values.specs.Bytes.{past_bytes}
use Rattle.digit_integers.specs.Integers.{integer_at}
use Rattle.digit_integers.specs.Numbers.{signed, is_negative_from, digits_from, most_from, number_at, to_end}
use Rattle.digit_integers.proofs.Texts.{says_some}
use Rattle.digit_amounts.specs.declared.scaled.ScaledError.{ScaledError}
use Rattle.digit_amounts.specs.Scaled.{scaled_at, read_scaled_at, whole_of}
use Rattle.digit_totals.specs.declared.options.Kind.{Kind}
use Rattle.digit_totals.specs.declared.options.Kind.TheVariants.{Integers, Places}
use Rattle.digit_totals.specs.declared.options.Options.{Options}
use Rattle.digit_totals.specs.declared.fault.NumberError.{NumberError}
use Rattle.digit_totals.specs.Errors.{of_field_at}
use Rattle.digit_totals.specs.Field.{span_in}
use Rattle.digit_totals.specs.Totals.{has_128_bits}
use Rattle.digit_totals.specs.Value.{with_blanks, as_integer, as_decimal, integer_in, decimal_in, number_in, in_span, value_of, word_of}
use Rattle.digit_totals.proofs.NumberLine.{of_sign, of_scaled_sign}

-- a magnitude with its sign
signed_fits : (negative : Bool) (magnitude : ℕ)
    → magnitude ≤ cond negative (2 ^ 127) (2 ^ 127 - 1)
    → has_128_bits (signed negative magnitude) ≡ true
signed_fits false magnitude l = grind (arith, nat_tests, l)
signed_fits true zero l = grind (arith, nat_tests)
signed_fits true (suc n) l = grind (arith, nat_tests, l)

-- ---- an integer

of_end : (text : List ℕ) (read : Result (ℤ × ℕ) LiteralError) (value : ℤ)
    → to_end text (with_blanks text read) ≡ Ok value → (end : ℕ) × (read ≡ Ok (value, end))
of_end text (Ok (other, end)) value e = (end, grind (arith, nat_tests, e))
of_end text (Err (literal.Empty at)) value e = absurd (grind (arith, nat_tests, e))
of_end text (Err (literal.Overflow at)) value e = absurd (grind (arith, nat_tests, e))

integer_fits : (word : ℕ) (text : List ℕ) (value : ℤ)
    → integer_in word text ≡ Ok value → has_128_bits value ≡ true
integer_fits word text value e =
    let rule = rule_of word Integer in
    let b = past_bytes text 0 BLANKS in
    let (end, read) = of_end text (number_at (2 ^ 127) (2 ^ 127 - 1) rule text b) value e in
    let negative = is_negative_from (2 ^ 127) text b in
    let from = digits_from (2 ^ 127) text b in
    let most = most_from (2 ^ 127) (2 ^ 127 - 1) rule text b in
    let (magnitude, is, signs) = of_sign negative (integer_at rule text from most) value end read in
    rw signs (signed_fits negative magnitude (says_some rule text from most magnitude end is).fits)

-- ---- a decimal number

of_whole : (text : List ℕ) (read : Result (ℤ × ℕ) ScaledError) (value : ℤ)
    → whole_of text (with_blanks text read) ≡ Ok value → (end : ℕ) × (read ≡ Ok (value, end))
of_whole text (Ok (other, end)) value e = (end, grind (arith, nat_tests, e))
of_whole text (Err error) value e = absurd (grind (arith, nat_tests, e))

scaled_fits : (word : ℕ) (text : List ℕ) (places most i magnitude end : ℕ)
    → scaled_at word text 46 places most i ≡ Ok (magnitude, end) → magnitude ≤ most
unfolding scaled_at
scaled_fits word text places most i magnitude end e = grind (arith, nat_tests, e)

decimal_fits : (word : ℕ) (text : List ℕ) (places : ℕ) (value : ℤ)
    → decimal_in word text places ≡ Ok value → has_128_bits value ≡ true
decimal_fits word text places value e =
    let b = past_bytes text 0 BLANKS in
    let (end, read) = of_whole text
    (read_scaled_at word text 46 places (2 ^ 127) (2 ^ 127 - 1) b) value e in
    let negative = is_negative_from (2 ^ 127) text b in
    let from = digits_from (2 ^ 127) text b in
    let most = cond negative (2 ^ 127) (2 ^ 127 - 1) in
    let (magnitude, is, signs) = of_scaled_sign word text places negative
    (scaled_at word text 46 places most from) value end read in
    rw signs (signed_fits negative magnitude
    (scaled_fits word text places most from magnitude end is))

-- ---- a line

number_fits : (word : ℕ) (text : List ℕ) (kind : Kind) (value : ℤ)
    → number_in word text kind ≡ Ok value → has_128_bits value ≡ true
number_fits word text Integers value e =
    by_integer (integer_in word text) refl e
  where
    by_integer : (read : Result ℤ ParseError) → integer_in word text ≡ read
        → as_integer read ≡ Ok value → has_128_bits value ≡ true
    by_integer (Ok other) is e = grind (arith, integer_fits word text other is, e)
    by_integer (Err error) is e = absurd (grind (arith, e))
number_fits word text (Places places) value e =
    by_decimal (decimal_in word text places) refl e
  where
    by_decimal : (read : Result ℤ ScaledError) → decimal_in word text places ≡ read
        → as_decimal read ≡ Ok value → has_128_bits value ≡ true
    by_decimal (Ok other) is e = grind (arith, decimal_fits word text places other is, e)
    by_decimal (Err error) is e = absurd (grind (arith, e))

of_field : (start : ℕ) (read : Result ℤ NumberError) (value : ℤ)
    → of_field_at start read ≡ Ok value → read ≡ Ok value
of_field start (Ok other) value e = e
of_field start (Err error) value e = absurd (grind (arith, e))

span_fits : (options : Options) (line : List ℕ) (span : Result (ℕ × ℕ) NumberError) (value : ℤ)
    → in_span options line span ≡ Ok value → has_128_bits value ≡ true
span_fits options line (Err error) value e = absurd (grind (arith, e))
span_fits options line (Ok (start, end)) value e =
    let field : List ℕ = slice_range line start end in
    number_fits (word_of options) field options.kind value
    (of_field start (number_in (word_of options) field options.kind) value e)

pub value_fits : (options : Options) (line : List ℕ) (value : ℤ)
    → value_of options line ≡ Ok value → has_128_bits value ≡ true
value_fits options line value e = span_fits options line (span_in options.column line) value e
