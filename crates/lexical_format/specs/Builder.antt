-- The word that a builder makes.
use Rattle.std.specs.Prelude.{◌≡◌, ℕ, ◌+◌, ◌*◌, ◌^◌, Bool, ◌&&◌, if◌then◌else◌, ◌==◌}
use Rattle.lexical_format.specs.declared.builder.DigitSeparatorFlags.{DigitSeparatorFlags}
use Rattle.lexical_format.specs.declared.builder.NumberFormatBuilder.{NumberFormatBuilder}
use Rattle.lexical_format.specs.Word.{bit, separator, mantissa_radix, exponent_radix, serves}

abbrev pub bit_if : Bool → ℕ → ℕ
bit_if is_set place = if is_set then 2 ^ place else 0

-- four flags three places apart, the internal one lowest
abbrev pub flags_number : DigitSeparatorFlags → ℕ
flags_number flags =
    bit_if flags.internal 0 + bit_if flags.leading 3
    + bit_if flags.trailing 6 + bit_if flags.consecutive 9

-- each part in its place, and nothing else
unfoldable pub word_of : NumberFormatBuilder → ℕ
word_of b =
    b.exponent_radix * 2 ^ 120 + b.mantissa_radix * 2 ^ 104 + b.digit_separator * 2 ^ 64
    + bit_if b.special 44
    + flags_number b.exponent * 2 ^ 34 + flags_number b.fraction * 2 ^ 33
    + flags_number b.integer * 2 ^ 32

-- a zero stands for the mantissa radix
abbrev pub exponent_radix_of : NumberFormatBuilder → ℕ
exponent_radix_of b = if b.exponent_radix == 0 then b.mantissa_radix else b.exponent_radix

-- both radixes serve beside the separator
abbrev pub serves_for : NumberFormatBuilder → Bool
serves_for b =
    serves b.mantissa_radix b.digit_separator && serves (exponent_radix_of b) b.digit_separator

-- the flags of a component stand in a word, the internal one at a place
pub record HasFlags (word place : ℕ) (flags : DigitSeparatorFlags) : Type 0 where
  pub internal : bit word place ≡ flags.internal
  pub leading : bit word (place + 3) ≡ flags.leading
  pub trailing : bit word (place + 6) ≡ flags.trailing
  pub consecutive : bit word (place + 9) ≡ flags.consecutive

-- a word says what a builder says
pub record Says (word : ℕ) (b : NumberFormatBuilder) : Type 0 where
  pub mantissa_radix : mantissa_radix word ≡ b.mantissa_radix
  pub exponent_radix : exponent_radix word ≡ exponent_radix_of b
  pub separator : separator word ≡ b.digit_separator
  pub integer : HasFlags word 32 b.integer
  pub fraction : HasFlags word 33 b.fraction
  pub exponent : HasFlags word 34 b.exponent
  pub special : bit word 44 ≡ b.special
