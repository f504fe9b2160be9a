-- Which bytes a number of a kind may have. Every other byte ends it.
use Rattle.std.specs.Prelude.{◌≡◌, ℕ, ◌<◌, ◌≤◌, Bool, true, false, ◌&&◌, ◌||◌, nat_lt, List, length, reverse, slice_get, take_while, ◌-◌}
use Rattle.lexical_digits.specs.Cursor.{holds_of}
use Rattle.lexical_digits.specs.declared.skip.component.Component.TheVariants.{Integer, Fraction, Exponent}
use Rattle.lexical_digits.specs.declared.skip.rule.Rule.{Rule}
use Rattle.lexical_digits.specs.Separators.{is_digit, is_separator}
use Rattle.lexical_digits.specs.State.{rule_of}
use Rattle.digit_literals.specs.declared.list.Gap.{Gap}
use Rattle.digit_literals.specs.Lists.{has_blank, has_separator}
use Rattle.digit_floats.specs.declared.parts.Marks.{Marks}
use Rattle.digit_floats.specs.Bytes.{is_sign, is_point, is_mark}

-- whether a byte is a digit or the separator of a rule
abbrev pub is_of_rule : Rule → ℕ → Bool
is_of_rule rule byte = is_digit rule byte || is_separator rule.separator byte

-- whether a byte may be in an integer of a type whose numbers begin at `- least`
abbrev pub is_integer_byte : ℕ → ℕ → ℕ → Bool
is_integer_byte least word byte =
    is_of_rule (rule_of word Integer) byte || nat_lt 0 least && is_sign byte

-- whether a byte may be in a scaled number
abbrev pub is_scaled_byte : ℕ → ℕ → ℕ → Bool
is_scaled_byte word point byte =
    is_of_rule (rule_of word Integer) byte || is_of_rule (rule_of word Fraction) byte
    || is_sign byte || is_point point byte

-- whether a byte may be in a float
abbrev pub is_float_byte : ℕ → Marks → ℕ → Bool
is_float_byte word marks byte =
    is_scaled_byte word marks.point byte || is_of_rule (rule_of word Exponent) byte
    || is_mark marks.exponent byte

-- the position after the last byte of a text that doesn't pass
unfoldable pub sure_end : (ℕ → Bool) → List ℕ → ℕ
sure_end p text = length text - length (take_while p (reverse text))

-- A separator that no number has. Before it is a byte of a number, after which come blanks alone:
-- a byte from `start` on that is no blank and separates nothing.
pub record PartsNumbers (has : ℕ → Bool) (gap : Gap) (text : List ℕ) (start at : ℕ) : Type 0 where
  pub separator : has_separator gap text at ≡ true
  pub other : holds_of has (slice_get text at) ≡ false
  pub last : ℕ
  pub onward : start ≤ last
  pub before : last < at
  pub no_separator : has_separator gap text last ≡ false
  pub no_blank : has_blank gap text last ≡ false
  pub blanks : (i : ℕ) → last < i → i < at → has_blank gap text i ≡ true
