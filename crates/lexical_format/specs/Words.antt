-- Flags by name, and what the words with names are made of.
use Rattle.std.specs.Prelude.{ℕ, true, false, IsTrue}
use Rattle.lexical_format.specs.declared.builder.DigitSeparatorFlags.{DigitSeparatorFlags}
use Rattle.lexical_format.specs.Word.{is_supported}
use Rattle.lexical_format.specs.Builder.{Says}

-- every separator is kept
abbrev pub nowhere : DigitSeparatorFlags
nowhere = record { internal = false; leading = false; trailing = false; consecutive = false }

-- one between two digits is dropped
abbrev pub between_digits : DigitSeparatorFlags
between_digits = record { internal = true; leading = false; trailing = false; consecutive = false }

-- a run between two digits
abbrev pub in_runs_between_digits : DigitSeparatorFlags
in_runs_between_digits = record {
  internal = true;
  leading = false;
  trailing = false;
  consecutive = true;
}

-- one before a digit
abbrev pub before_digits : DigitSeparatorFlags
before_digits = record { internal = true; leading = true; trailing = false; consecutive = false }

-- a run before a digit
abbrev pub in_runs_before_digits : DigitSeparatorFlags
in_runs_before_digits = record {
  internal = true;
  leading = true;
  trailing = false;
  consecutive = true;
}

-- a run after a digit
abbrev pub after_digits : DigitSeparatorFlags
after_digits = record { internal = true; leading = false; trailing = true; consecutive = true }

-- every separator is dropped
abbrev pub everywhere : DigitSeparatorFlags
everywhere = record { internal = true; leading = true; trailing = true; consecutive = true }

-- a supported word with two radixes, a separator, and the flags of the components
pub record IsWord (word mantissa_radix exponent_radix separator : ℕ)
    (integer fraction exponent : DigitSeparatorFlags) : Type 0 where
  pub supported : IsTrue (is_supported word)
  pub says : Says word (record {
    mantissa_radix = mantissa_radix;
    exponent_radix = exponent_radix;
    digit_separator = separator;
    integer = integer;
    fraction = fraction;
    exponent = exponent;
    special = false;
  })

-- decimal numbers with `_`, and the same flags in each component
abbrev pub IsDecimal : ℕ → DigitSeparatorFlags → Type 0
IsDecimal word flags = IsWord word 10 10 95 flags flags flags

-- integers of a radix with `_`
abbrev pub IsInteger : ℕ → ℕ → DigitSeparatorFlags → Type 0
IsInteger word radix flags = IsWord word radix radix 95 flags nowhere nowhere

-- integers of radix 16, 8 and 2 with `_`, and the same flags in each
pub record AreIntegers (of_16 of_8 of_2 : ℕ) (flags : DigitSeparatorFlags) : Type 0 where
  pub hex : IsInteger of_16 16 flags
  pub octal : IsInteger of_8 8 flags
  pub binary : IsInteger of_2 2 flags
