-- Hexadecimal digits with `:` between them.
use Rattle.std.specs.Prelude.{◌≡◌, ℕ, ◌<◌, ◌≢◌, true, false, List, length, filter}
use Rattle.std.specs.Str.Parse.{digits_value}
use Rattle.lexical_digits.specs.declared.skip.rule.Rule.{Rule}
use Rattle.lexical_digits.specs.Separators.{is_digit}
use Rattle.lexical_digits.specs.Stop.{stop}
use Rattle.number_vectors.specs.declared.groups.GroupsError.{GroupsError}
use Rattle.number_vectors.specs.declared.groups.GroupsError.TheVariants.{Byte, Count}

-- one `:` between two digits
abbrev pub colons : Rule
colons = record {
  separator = 58;
  radix = 16;
  internal = true;
  leading = false;
  trailing = false;
  consecutive = false;
}

module _ (text : List ℕ) (count : ℕ) where
  abbrev pub digits : List ℕ
  digits = filter (is_digit colons) text

  -- the text is so many digits, and what they are worth
  pub record IsGroups (value : ℕ) : Type 0 where
    pub ends : stop colons text 0 0 ≡ length text
    pub counts : length digits ≡ count
    pub is : value ≡ digits_value 16 digits

  abbrev pub IsFault : GroupsError → Type 0
  IsFault (Byte at) = (at ≡ stop colons text 0 0) × (at < length text)
  IsFault (Count n) = (stop colons text 0 0 ≡ length text) × (n ≡ length digits) × (n ≢ count)
