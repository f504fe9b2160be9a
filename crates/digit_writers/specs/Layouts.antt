-- The text of a number in a layout, and which words read it.
use Rattle.std.specs.Prelude.{◌≡◌, ℕ, zero, suc, ℤ, ◌-◌, ◌/◌, ◌%◌, ◌<◌, ◌≤◌, ◌==◌, ◌&&◌, max, unsigned_abs, nat_lt, if◌then◌else◌, Bool, true, List, [], ◌∷◌, ◌++◌, length, decimal}
use Rattle.std.specs.Int.{is_negative}
use Rattle.std.specs.List.{splice}
use Rattle.std.specs.Int.Digits.{digits_of}
use Rattle.lexical_format.specs.Word.{separator, bit}
use Rattle.digit_writers.specs.declared.layout.Layout.{Layout}
use Rattle.digit_writers.specs.Digits.{last_digits, last_decimals}
use Rattle.digit_writers.specs.Written.{IsOfRadix}

-- ---- groups of digits

module _ (separator every : ℕ) where
  -- what stands before the last so many digits, if others are before them
  abbrev pub before : ℕ → List ℕ
  before count =
      if nat_lt 0 count && nat_lt 0 every && (count % every == 0) then separator ∷ [] else []

  -- digits with a separator after every so many of them, counted from the last; 0 means none
  unfoldable pub grouped : List ℕ → List ℕ
  grouped [] = []
  grouped (digit ∷ digits) = digit ∷ (before (length digits) ++ grouped digits)

-- how many separators are between so many digits
abbrev pub gaps : ℕ → ℕ → ℕ
gaps zero count = 0
gaps (suc every) count = (count - 1) / suc every

-- the decimal digits of a number in groups of three
abbrev pub thousands : ℕ → ℕ → List ℕ
thousands separator n = grouped separator 3 (decimal n)

-- so many of the last ones, and the separator before them
abbrev pub thousands_after : ℕ → ℕ → ℕ → List ℕ
thousands_after separator count n =
    before separator 3 count ++ grouped separator 3 (last_decimals count n)

-- ---- a number

-- how many digits a number has
abbrev pub digit_count : ℕ → ℕ → ℕ
digit_count radix n = max 1 (length (digits_of radix n))

-- a minus, or a plus where one is to be written
abbrev pub sign_of : Bool → Bool → List ℕ
sign_of plus negative = if negative then 45 ∷ [] else (if plus then 43 ∷ [] else [])

-- its digits, with zeros before them up to the least number of digits
abbrev pub digits_in : Layout → ℕ → List ℕ
digits_in layout n =
    last_digits layout.radix layout.is_upper
    (max layout.digits (digit_count layout.radix n)) n

-- a magnitude and whether it is below 0
abbrev pub text_of : Layout → Bool → ℕ → List ℕ
text_of layout negative n =
    sign_of layout.has_plus negative
    ++ grouped layout.separator layout.every (digits_in layout n)

abbrev pub laid_out : Layout → ℤ → List ℕ
laid_out layout z = text_of layout (is_negative z) (unsigned_abs z)

-- ---- of functions that no caller sees

-- a magnitude with its sign was written at the front of a list
pub record IsLaidOut (layout : Layout) (negative : Bool) (n : ℕ) (old new : List ℕ) (end : ℕ)
    : Type 0 where
  pub end_is : end ≡ length (text_of layout negative n)
  pub within : end ≤ length old
  pub written : new ≡ splice old 0 end (text_of layout negative n)

-- there is no room for it
pub record HasNoRoom (layout : Layout) (negative : Bool) (n : ℕ) (old : List ℕ) (needed : ℕ)
    : Type 0 where
  pub needed_is : needed ≡ length (text_of layout negative n)
  pub less : length old < needed

-- ---- what a layout says

pub record HasParts (base : ℕ) (upper : Bool) (byte size count : ℕ) (plus : Bool) (layout : Layout)
    : Type 0 where
  pub radix : layout.radix ≡ base
  pub case : layout.is_upper ≡ upper
  pub separator : layout.separator ≡ byte
  pub every : layout.every ≡ size
  pub digits : layout.digits ≡ count
  pub sign : layout.has_plus ≡ plus

-- ---- which words read it

-- A word reads what a layout writes, for a type whose least number is `- least`: its radix is that
-- of the layout, and a separator between two digits of the integer is dropped. A plus is read if
-- the type has a sign.
pub record IsReadBy (word : ℕ) (layout : Layout) (least : ℕ) : Type 0 where
  pub radix : IsOfRadix layout.radix word
  pub separates : 0 < layout.every
      → (separator word ≡ layout.separator) × (bit word 32 ≡ true)
  pub signs : layout.has_plus ≡ true → 0 < least
