-- A line of the input: four fields, each followed by one space, and then the text.
use Rattle.std.specs.Prelude.{◌≡◌, ◌≢◌, ◌⊎◌, ℕ, ◌+◌, ◌<◌, ◌≤◌, ◌==◌, ◌&&◌, ◌||◌, not, nat_eq, nat_le, nat_lt, if◌then◌else◌, Bool, false, true, List, [], ◌∷◌, ◌++◌, length, take, drop, position, All, Option, Some, None, option_map, codes, bytes_eq}
use Rattle.std.specs.List.{list_all, list_any, IsDistinct}
use Rattle.std.specs.Char.{digit_value}
use Rattle.std.specs.Str.{byte}
use Rattle.std.specs.Str.Parse.{IsNumeral, digits_value}
use Rattle.lexical_format.specs.declared.builder.DigitSeparatorFlags.{DigitSeparatorFlags}
use Rattle.lexical_format.specs.declared.builder.NumberFormatBuilder.{NumberFormatBuilder}
use Rattle.lexical_format.specs.Builder as Builder
use Rattle.lexical_digits.specs.declared.skip.component.Component.{Component}
use Rattle.lexical_digits.specs.declared.skip.component.Component.TheVariants.{Integer, Fraction, Exponent, Special}
use Rattle.digit_requests.specs.declared.line.Request.{Request}

infixl 10 ◌>>=◌
abbrev pub ◌>>=◌ : {A B : Type 0} → Option A → (A → Option B) → Option B
(Some x) >>= f = f x
None >>= f = None

-- the bytes before the first `mark`, and the bytes after it
abbrev pub cut : ℕ → List ℕ → Option (List ℕ × List ℕ)
cut mark bytes =
    option_map (λ i. (take i bytes, drop (i + 1) bytes)) (position (λ b. b == mark) bytes)

-- ---- what a field is

-- the name of a component
abbrev pub name_of : Component → List ℕ
name_of Integer = codes "integer"
name_of Fraction = codes "fraction"
name_of Exponent = codes "exponent"
name_of Special = codes "special"

-- One to three decimal digits write the value, which a byte holds.
pub record IsDecimal (field : List ℕ) (value : ℕ) : Type 0 where
  pub numeral : IsNumeral 10 field
  pub few : length field ≤ 3
  pub writes : digits_value 10 field ≡ value
  pub small : value ≤ 255

-- Two hexadecimal digits, in either case, write the value.
pub record IsHexadecimal (field : List ℕ) (value : ℕ) : Type 0 where
  pub numeral : IsNumeral 16 field
  pub two : length field ≡ 2
  pub writes : digits_value 16 field ≡ value

-- Two decimal numbers with a `/` between them: the mantissa's radix, and the exponent's.
pub record AreTwoRadixes (field : List ℕ) (mantissa exponent : ℕ) : Type 0 where
  pub before : List ℕ
  pub after : List ℕ
  pub field_is : field ≡ before ++ byte "/" ∷ after
  pub mantissa_is : IsDecimal before mantissa
  pub exponent_is : IsDecimal after exponent

-- only the mantissa's radix, and then the exponent's is zero; or both
abbrev pub AreRadixes : List ℕ → ℕ → ℕ → Type 0
AreRadixes field mantissa exponent =
    (IsDecimal field mantissa × (exponent ≡ 0)) ⊎ AreTwoRadixes field mantissa exponent

-- one of the letters of a number's flags
abbrev pub IsFlagLetter : ℕ → Type 0
IsFlagLetter letter =
    (letter ≡ byte "I") ⊎ (letter ≡ byte "L") ⊎ (letter ≡ byte "T") ⊎ (letter ≡ byte "C")

-- whether a letter is in a field
abbrev pub has_letter : ℕ → List ℕ → Bool
has_letter letter field = list_any (λ b. b == letter) field

-- One or more of the letters I, L, T and C, in any order, none of them twice; and each flag is set
-- exactly if its letter is there.
pub record AreNumberFlags (field : List ℕ) (flags : DigitSeparatorFlags) : Type 0 where
  pub some : 0 < length field
  pub letters : All IsFlagLetter field
  pub none_twice : IsDistinct nat_eq field
  pub internal : flags.internal ≡ has_letter (byte "I") field
  pub leading : flags.leading ≡ has_letter (byte "L") field
  pub trailing : flags.trailing ≡ has_letter (byte "T") field
  pub consecutive : flags.consecutive ≡ has_letter (byte "C") field

abbrev pub no_flags : DigitSeparatorFlags
no_flags = record { internal = false; leading = false; trailing = false; consecutive = false }

-- the letters of a component, whose flags a format has; no other component has one
abbrev pub AreLetters : Component → List ℕ → NumberFormatBuilder → Type 0
AreLetters Integer field f = AreNumberFlags field f.integer
    × (f.fraction ≡ no_flags) × (f.exponent ≡ no_flags) × (f.special ≡ false)
AreLetters Fraction field f = AreNumberFlags field f.fraction
    × (f.integer ≡ no_flags) × (f.exponent ≡ no_flags) × (f.special ≡ false)
AreLetters Exponent field f = AreNumberFlags field f.exponent
    × (f.integer ≡ no_flags) × (f.fraction ≡ no_flags) × (f.special ≡ false)
AreLetters Special field f = (field ≡ codes "S") × (f.integer ≡ no_flags)
    × (f.fraction ≡ no_flags) × (f.exponent ≡ no_flags) × (f.special ≡ true)

abbrev pub HasNoFlags : NumberFormatBuilder → Type 0
HasNoFlags f = (f.integer ≡ no_flags) × (f.fraction ≡ no_flags) × (f.exponent ≡ no_flags)
    × (f.special ≡ false)

-- `-` for none, or the letters of the component
abbrev pub AreFlags : Component → List ℕ → NumberFormatBuilder → Type 0
AreFlags component field format =
    ((field ≡ codes "-") × HasNoFlags format) ⊎ AreLetters component field format

-- ---- how it is read

abbrev pub component_of : List ℕ → Option Component
component_of field =
    if bytes_eq field (codes "integer") then Some Integer
    else if bytes_eq field (codes "fraction") then Some Fraction
    else if bytes_eq field (codes "exponent") then Some Exponent
    else if bytes_eq field (codes "special") then Some Special
    else None

-- the number that a field of digits writes, if a byte holds it
abbrev pub number_of : ℕ → List ℕ → Option ℕ
number_of radix field =
    if list_all (λ b. nat_lt (digit_value b) radix) field && nat_lt (digits_value radix field) 256
    then Some (digits_value radix field)
    else None

-- one to three decimal digits
abbrev pub decimal_of : List ℕ → Option ℕ
decimal_of field =
    if nat_le 1 (length field) && nat_le (length field) 3 then number_of 10 field else None

-- two hexadecimal digits
abbrev pub hexadecimal_of : List ℕ → Option ℕ
hexadecimal_of field = if length field == 2 then number_of 16 field else None

-- `m` or `m/e`; an `e` that is missing is zero
abbrev pub radixes_of_parts : List ℕ → Option (List ℕ × List ℕ) → Option (ℕ × ℕ)
radixes_of_parts field None = do
  mantissa ← decimal_of field
  Some (mantissa, 0)
radixes_of_parts field (Some parts) = do
  mantissa ← decimal_of parts.0
  exponent ← decimal_of parts.1
  Some (mantissa, exponent)

unfoldable pub radixes_of : List ℕ → Option (ℕ × ℕ)
radixes_of field = radixes_of_parts field (cut 47 field)

abbrev pub is_flag_letter : ℕ → Bool
is_flag_letter b = (b == 73) || (b == 76) || (b == 84) || (b == 67)

-- the letters I, L, T and C, none twice, and nothing else
abbrev pub are_flag_letters : List ℕ → Bool
are_flag_letters [] = true
are_flag_letters (letter ∷ letters) =
    if is_flag_letter letter && not (has_letter letter letters)
    then are_flag_letters letters
    else false

-- one or more of these letters
abbrev pub number_flags_of : List ℕ → Option DigitSeparatorFlags
number_flags_of field =
    if nat_lt 0 (length field) && are_flag_letters field
    then Some (record {
      internal = has_letter 73 field;
      leading = has_letter 76 field;
      trailing = has_letter 84 field;
      consecutive = has_letter 67 field;
    })
    else None

-- the decimal format without a separator
abbrev pub decimal : NumberFormatBuilder
decimal = record {
  mantissa_radix = 10;
  exponent_radix = 0;
  digit_separator = 0;
  integer = no_flags;
  fraction = no_flags;
  exponent = no_flags;
  special = false;
}

-- the letters of the component
abbrev pub letters_of : Component → List ℕ → Option NumberFormatBuilder
letters_of Integer field = do
  flags ← number_flags_of field
  Some (record decimal { integer = flags })
letters_of Fraction field = do
  flags ← number_flags_of field
  Some (record decimal { fraction = flags })
letters_of Exponent field = do
  flags ← number_flags_of field
  Some (record decimal { exponent = flags })
letters_of Special field =
    if bytes_eq field (codes "S") then Some (record decimal { special = true }) else None

-- `-`, or the letters of the component
abbrev pub flags_of : Component → List ℕ → Option NumberFormatBuilder
flags_of component field =
    if bytes_eq field (codes "-") then Some decimal else letters_of component field

-- ---- the line

-- what a line asks for, without where its text lies in memory
pub record Asked : Type 0 where
  pub component : Component
  pub format : NumberFormatBuilder
  pub text : List ℕ

abbrev pub asked_by : Request → Asked
asked_by r = record { component = r.component; format = r.format; text = r.text.now }

-- the flags with two radixes and a separator
abbrev pub with_radixes : NumberFormatBuilder → ℕ × ℕ → ℕ → NumberFormatBuilder
with_radixes flags radixes separator = record flags {
  mantissa_radix = radixes.0;
  exponent_radix = radixes.1;
  digit_separator = separator;
}

-- what a line asks for, if it is a request
unfoldable pub request_of : List ℕ → Option Asked
request_of line = do
  component ← cut 32 line
  radixes ← cut 32 component.1
  separator ← cut 32 radixes.1
  flags ← cut 32 separator.1
  c ← component_of component.0
  r ← radixes_of radixes.0
  s ← hexadecimal_of separator.0
  f ← flags_of c flags.0
  Some (record { component = c; format = with_radixes f r s; text = flags.1 })

abbrev pub HasNoSpace : List ℕ → Type 0
HasNoSpace field = All (λ b. b ≢ byte " ") field

abbrev pub with_space : List ℕ → List ℕ → List ℕ
with_space field rest = field ++ byte " " ∷ rest

-- The line is four fields without a space in them, each followed by one space, and then the text.
pub record Spells (line : List ℕ) (asked : Asked) : Type 0 where
  pub component : List ℕ
  pub radixes : List ℕ
  pub separator : List ℕ
  pub flags : List ℕ
  pub line_is : line ≡
      with_space component (with_space radixes (with_space separator (with_space flags asked.text)))
  pub no_spaces :
      HasNoSpace component × HasNoSpace radixes × HasNoSpace separator × HasNoSpace flags
  pub component_is : component ≡ name_of asked.component
  pub radixes_are : AreRadixes radixes asked.format.mantissa_radix asked.format.exponent_radix
  pub separator_is : IsHexadecimal separator asked.format.digit_separator
  pub flags_are : AreFlags asked.component flags asked.format

-- the format word that a line asks for
abbrev pub word_of : Asked → ℕ
word_of asked = Builder.word_of asked.format
