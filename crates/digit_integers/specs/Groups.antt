-- Of functions that no caller sees: groups of three digits. No public clause uses these words.
use Rattle.std.specs.Prelude.{◌≡◌, ℕ, ◌+◌, ◌*◌, ◌≤◌, true, List, length, slice_index, Some}
use Rattle.lexical_format.specs.Digits.{digit_of_radix}
use Rattle.lexical_digits.specs.declared.skip.rule.Rule.{Rule}
use Rattle.lexical_digits.specs.Separators.{is_separator, IsSupported}

-- a rule of decimal digits drops this byte where it stands alone between two of them
pub record DropsLone (rule : Rule) (separator : ℕ) : Type 0 where
  pub supported : IsSupported rule
  pub ten : rule.radix ≡ 10
  pub internal : rule.internal ≡ true
  pub is : rule.separator ≡ separator

-- a separator, and three decimal digits after it, which write a number
pub record IsGroup (separator : ℕ) (text : List ℕ) (at value : ℕ) : Type 0 where
  pub hundreds : ℕ
  pub tens : ℕ
  pub ones : ℕ
  pub within : at + 4 ≤ length text
  pub separates : is_separator separator (slice_index text at) ≡ true
  pub first : digit_of_radix 10 (slice_index text (at + 1)) ≡ Some hundreds
  pub second : digit_of_radix 10 (slice_index text (at + 2)) ≡ Some tens
  pub third : digit_of_radix 10 (slice_index text (at + 3)) ≡ Some ones
  pub is : value ≡ hundreds * 100 + tens * 10 + ones
