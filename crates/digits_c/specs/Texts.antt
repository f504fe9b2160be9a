-- Numbers that are written into places of the caller, as C has them.
use Rattle.std.specs.Prelude.{◌≡◌, ℕ, ℤ, ◌<◌, ◌≤◌, ◌==◌, nat_lt, if◌then◌else◌, unsigned_abs, false, true, List, [], ◌++◌, length, take, drop, decimal, Option, None, Some, Ok}
use Rattle.std.specs.Float.{Float, Format, binary64}
use Rattle.std.specs.Int.{is_negative}
use Rattle.lexical_format.specs.Word.{separator, bit}
use Rattle.digit_writers.specs.Amounts.{amount_text}
use Rattle.digit_writers.specs.Layouts.{HasParts, grouped, sign_of}
use Rattle.digit_writers.specs.Valid.{is_layout}
use Rattle.digits.specs.Words.{ExponentText, FloatLayout, FloatTextError, IsOfRadix, IsReason}
use Rattle.digits.specs.Words.{IsTextOf, Layout, STANDARD, parse_at, plain_marks, scientific_text}
use Rattle.digits.specs.Words.{Form, FormTextError, IsFormReason, IsNumberOf, Number}
use Rattle.decimal_writers.specs.declared.exponent.ExponentText.TheVariants.{Short, Signed}
use Rattle.float_writers.specs.declared.write.FloatLayout.TheVariants.{Plain, Exponent, Usual}
use Rattle.digits_c.specs.declared.write_floats.TheConstants.{USUAL, PLAIN, EXPONENT, EXPONENT_SIGNED, EXPONENT_SHORT}

-- What a call leaves that writes a text: unless the answer is 0, the text is at the front of the
-- places. What is behind it is what it was. The answer is the text's length if there is room for
-- it, and else 0.
pub record Puts (text old new : List ℕ) (count : ℕ) : Type 0 where
  pub written : 0 < count → take count new ≡ text
  pub rest : drop count new ≡ drop count old
  pub all : length text ≤ length old → count ≡ length text
  pub none : length old < length text → count ≡ 0

-- ---- integers and amounts; where there is nothing to write the text is empty

-- groups of so many digits, counted from the last, with a byte between them that is neither 0 nor a
-- digit
abbrev pub grouped_text : ℕ → ℕ → ℤ → List ℕ
grouped_text between every z =
    if is_layout 10 between every
    then sign_of false (is_negative z) ++ grouped between every (decimal (unsigned_abs z))
    else []

-- the layout of such groups
pub record IsGrouped (between every : ℕ) (layout : Layout) : Type 0 where
  pub valid : is_layout 10 between every ≡ true
  pub parts : HasParts 10 false between every 1 false layout

-- units of the last of at most 38 places
abbrev pub scaled_text : ℕ → ℕ → ℤ → List ℕ
scaled_text point places z =
    if nat_lt 38 places then [] else amount_text false 0 point places z

-- the same with a byte between groups of three digits
abbrev pub in_groups_text : ℕ → ℕ → ℕ → ℤ → List ℕ
in_groups_text between point places z =
    if nat_lt 38 places then [] else amount_text true between point places z

-- the same in groups if there is such a byte
abbrev pub price_text : ℕ → ℕ → ℕ → ℤ → List ℕ
price_text between point places z =
    if between == 0 then scaled_text point places z else in_groups_text between point places z

-- a word reads such groups: its radix is 10, and between two digits of an integer it drops the byte
pub record ReadsGroups (word between every : ℕ) : Type 0 where
  pub radix : IsOfRadix 10 word
  pub separates : 0 < every → (separator word ≡ between) × (bit word 32 ≡ true)

-- ---- floats

-- the layout with a number
unfoldable pub layout_of : ℕ → Option FloatLayout
layout_of n =
    if n == USUAL then Some Usual
    else if n == PLAIN then Some Plain
    else if n == EXPONENT then Some Exponent
    else None

-- What a call leaves that writes the text of a float: unless the answer is 0, it is at the front of
-- the places, and is read as the float. What is behind it is what it was. If the answer is 0, there
-- is a reason: the float isn't finite, or its text is longer than the places.
pub record PutsFloat (f : Format) (x : Float) (layout : FloatLayout) (old new : List ℕ) (count : ℕ)
    : Type 0 where
  pub written : 0 < count → IsTextOf f x layout (take count new)
  pub reads : 0 < count → parse_at STANDARD (take count new) plain_marks f 0 ≡ Ok x
  pub within : count ≤ length old
  pub rest : drop count new ≡ drop count old
  pub none : count ≡ 0 → (error : FloatTextError) × IsReason f x layout (length old) error

-- the same by a layout that has a number, or has none
abbrev pub PutsFloatBy : Format → Float → Option FloatLayout → List ℕ → List ℕ → ℕ → Type 0
PutsFloatBy f x None old new count = (count ≡ 0) × (new ≡ old)
PutsFloatBy f x (Some layout) old new count = PutsFloat f x layout old new count

-- the text of an exponent with a number
unfoldable pub exponent_of : ℕ → Option ExponentText
exponent_of n =
    if n == EXPONENT_SIGNED then Some Signed
    else if n == EXPONENT_SHORT then Some Short
    else None

-- a float with one digit before the point, so many places and such an exponent
abbrev pub scientific_by : Float → ℕ → Option ExponentText → List ℕ
scientific_by x places None = []
scientific_by x places (Some style) = scientific_text x places style

-- ---- numbers by a form

-- What a call leaves that writes a number by a form: unless the answer is 0, its text is at the
-- front of the places, and is read by the form as the number. What is behind it is what it was. If
-- the answer is 0, there is a reason: the form has no such number, or a text of it is longer than
-- the places.
pub record PutsNumber (form : Form) (number : Number Float) (old new : List ℕ) (count : ℕ) : Type 0
  where
    pub reads : 0 < count → IsNumberOf form binary64 number (take count new)
    pub within : count ≤ length old
    pub rest : drop count new ≡ drop count old
    pub none : count ≡ 0
        → (error : FormTextError) × IsFormReason form binary64 number (length old) error

-- the same by a form that has a number, or has none
abbrev pub PutsNumberBy : Number Float → Option Form → List ℕ → List ℕ → ℕ → Type 0
PutsNumberBy number None old new count = (count ≡ 0) × (new ≡ old)
PutsNumberBy number (Some form) old new count = PutsNumber form number old new count
