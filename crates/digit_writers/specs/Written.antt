-- That a text is read as a number.
use Rattle.std.specs.Prelude.{◌≡◌, ℕ, ℤ, pos, negsuc, ◌^◌, ◌<◌, ◌≤◌, List, length, Ok, IsTrue}
use Rattle.lexical_format.specs.Word.{is_supported, mantissa_radix}
use Rattle.lexical_digits.specs.declared.skip.component.Component.TheVariants.{Integer}
use Rattle.lexical_digits.specs.State.{rule_of}
use Rattle.digit_integers.specs.Numbers.{number_at, to_end}

-- digits of a radix are read by a word
abbrev pub IsOfRadix : ℕ → ℕ → Type 0
IsOfRadix radix word = IsTrue (is_supported word) × (mantissa_radix word ≡ radix)

-- a number is one of a type, whose numbers are from `- least` to `most`
abbrev pub IsOfType : ℕ → ℕ → ℤ → Type 0
IsOfType least most (pos n) = (n ≤ most) × (n < 2 ^ 128)
IsOfType least most (negsuc n) = (n < least) × (n < 2 ^ 128)

module _ (word least most : ℕ) (number : ℤ) where
  -- `parse_number` of a text answers this number, for a type whose numbers are from `- least` to
  -- `most`
  abbrev pub Reads : List ℕ → Type 0
  Reads text = to_end text (number_at least most (rule_of word Integer) text 0) ≡ Ok number

  -- no text that is read as the number is shorter
  abbrev pub IsShortest : List ℕ → Type 0
  IsShortest text = (other : List ℕ) → Reads other → length text ≤ length other
