-- The text of a list of numbers, and how it is read.
use Rattle.std.specs.Prelude.{◌≡◌, ℕ, ℤ, ◌≤◌, ◌⊎◌, true, List, [], ◌∷◌, ◌++◌, length, take, drop}
use Rattle.std.specs.Fmt.{signed_decimal}
use Rattle.lexical_digits.specs.ByteSet.{accepts}
use Rattle.digit_literals.specs.declared.list.Gap.{Gap}
use Rattle.digit_literals.specs.Lists.{is_blank}
use Rattle.digit_pieces.specs.Cuts.{is_integer_byte}
use Rattle.digit_pieces.specs.Texts.{IsApart}
use Rattle.digit_writers.specs.Written.{IsOfRadix}

-- numbers with a byte before each of them
unfoldable pub others_text : ℕ → List ℤ → List ℕ
others_text separator [] = []
others_text separator (z ∷ zs) = separator ∷ (signed_decimal z ++ others_text separator zs)

-- numbers with a byte between each two of them
abbrev pub list_text : ℕ → List ℤ → List ℕ
list_text separator [] = []
list_text separator (z ∷ zs) = signed_decimal z ++ others_text separator zs

-- ---- how it is read

-- a byte separates two numbers by a gap: it is a separator, or a blank, and blanks separate
abbrev pub IsSeparatorOf : Gap → ℕ → Type 0
IsSeparatorOf gap byte =
    (accepts gap.separators byte ≡ true)
    ⊎ ((gap.blanks_separate ≡ true) × (is_blank gap byte ≡ true))

-- A word and a gap read a list with this byte between its numbers, for a type whose least number is
-- `- least`: the radix is 10, and no byte that may be between two numbers may be in one.
pub record IsListReadBy (word least separator : ℕ) (gap : Gap) : Type 0 where
  pub radix : IsOfRadix 10 word
  pub apart : IsApart (is_integer_byte least word) gap
  pub separates : IsSeparatorOf gap separator

-- ---- of a loop that no caller sees

-- a text up to a position, and what is left of it: the slice has the text so far
pub record IsListSoFar (separator : ℕ) (text : List ℕ) (left : List ℤ) (at : ℕ) (old new : List ℕ)
    : Type 0 where
  pub written : take at new ++ others_text separator left ≡ text
  pub rest : drop at new ≡ drop at old
  pub within : at ≤ length new
  pub same_length : length new ≡ length old
