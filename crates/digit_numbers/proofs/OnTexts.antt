-- What a proof unfolds to compute at a text, or at a form's number, that is written out.
use Rattle.std.specs.Prelude.{⊤}
use Rattle.lexical_format.specs.Digits.{digit_value}
use Rattle.lexical_digits.specs.Separators.{kept_positions, is_kept, is_dropped, holds_separator}
use Rattle.lexical_digits.specs.Separators.{is_digit, is_separator, drain, digits_seen}
use Rattle.lexical_digits.specs.Stop.{stop}
use Rattle.digit_integers.specs.Integers.{integer_at}
use Rattle.digit_floats.specs.Float.{digits_end, digits_from, fraction_digits, fraction_end}
use Rattle.digit_floats.specs.Float.{exponent_digits, exponent_end, exponent_negative}
use Rattle.digit_numbers.specs.Numbered.{source_form, script_form, format_form, parse_form, take_form}
use Rattle.digit_numbers.specs.Numbers.{past_sign, is_float, is_hex_float, is_hex_here, hex_word_at}
use Rattle.digit_numbers.specs.Numbers.{plain_at, number_of_at}
use Rattle.digit_numbers.specs.Specials.{is_here, special_at}

unfoldable pub on_texts : ⊤
unfolding
    integer_at stop kept_positions is_kept is_dropped holds_separator is_digit is_separator drain
    digits_seen digit_value digits_end digits_from fraction_digits fraction_end exponent_digits
    exponent_end exponent_negative past_sign is_float is_hex_float is_hex_here hex_word_at plain_at
    number_of_at is_here special_at
on_texts = tt

unfoldable pub on_numbers : ⊤
unfolding digit_value source_form script_form format_form parse_form take_form
on_numbers = tt
