-- Of functions that no caller sees: digits of radix 16 with no separator among them. No public
-- clause uses these words.
use Rattle.std.specs.Prelude.{◌≡◌, ℕ, ◌-◌, ◌^◌, ◌<◌, ◌≤◌, true, List, length, slice_index}
use Rattle.std.specs.Str.Parse.{digits_value}
use Rattle.lexical_digits.specs.declared.skip.rule.Rule.{Rule}
use Rattle.lexical_digits.specs.Separators.{is_digit}
use Rattle.digit_values.specs.After.{digits_between}

-- the bytes from the start up to an end are digits, and this is their value
pub record AreHexadecimal (rule : Rule) (text : List ℕ) (start end value : ℕ) : Type 0 where
  pub onward : start ≤ end
  pub within : end ≤ length text
  pub digits : (q : ℕ) → start ≤ q → q < end → is_digit rule (slice_index text q) ≡ true
  pub is : value ≡ digits_value rule.radix (digits_between rule text start end)
  pub few : value < 16 ^ (end - start)
