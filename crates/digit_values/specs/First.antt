-- What reading the first digits of a component answers.
use Rattle.std.specs.Prelude.{◌≡◌, ℕ, ◌+◌, ◌-◌, ◌<◌, ◌≤◌, List, length, take}
use Rattle.std.specs.Str.Parse.{AllDigits, digits_value_after}
use Rattle.lexical_digits.specs.declared.skip.rule.Rule.{Rule}
use Rattle.lexical_digits.specs.Stop.{stop}
use Rattle.digit_values.specs.After.{digits_between}
use Rattle.digit_values.specs.declared.first.FirstDigits.{FirstDigits}

-- Of these digits as many were read after the value of others as leave it at most `most`. Where
-- that is a power of the radix less 1, they are the first significant digits: of these alone, or of
-- others and these.
pub record ReadsFirst (radix most before : ℕ) (digits : List ℕ) (read : FirstDigits) : Type 0 where
  pub some : 1 ≤ radix
  pub all : AllDigits radix digits
  pub count : read.count ≡ length digits
  pub dropped : read.dropped ≤ read.count
  pub is : read.value
      ≡ digits_value_after radix before (take (read.count - read.dropped) digits)
  pub fits : read.value ≤ most
  pub next : 0 < read.dropped
      → most < digits_value_after radix before (take (read.count - read.dropped + 1) digits)

-- Of functions that no caller sees: the same of the digits of a rule from a start on, and where
-- these end. No public clause uses this word.
pub record ReadsFirstFrom (rule : Rule) (text : List ℕ) (start before most : ℕ)
    (read : FirstDigits) (end : ℕ) : Type 0 where
  pub first : ReadsFirst rule.radix most before
      (digits_between rule text start (stop rule text start 0)) read
  pub stops : end ≡ stop rule text start 0
  pub onward : start + read.count ≤ end
  pub within : end ≤ length text
