-- The text of an amount in units of its last place, and which words read it.
use Rattle.std.specs.Prelude.{◌≡◌, ℕ, zero, suc, ℤ, ◌/◌, ◌^◌, ◌<◌, unsigned_abs, Bool, true, false, List, [], ◌∷◌, ◌++◌, decimal, Some, IsTrue}
use Rattle.std.specs.Int.{is_negative}
use Rattle.lexical_format.specs.Word.{is_supported, separator, bit}
use Rattle.lexical_digits.specs.declared.skip.component.Component.TheVariants.{Integer}
use Rattle.lexical_digits.specs.declared.skip.rule.Class.TheVariants.{Other}
use Rattle.lexical_digits.specs.Separators.{class}
use Rattle.lexical_digits.specs.State.{rule_of}
use Rattle.digit_floats.specs.Float.{IsDecimal}
use Rattle.digit_writers.specs.Digits.{last_decimals}
use Rattle.digit_writers.specs.Layouts.{sign_of, thousands}

-- an integer, in groups of three digits or not
abbrev pub whole_text : Bool → ℕ → ℕ → List ℕ
whole_text true between n = thousands between n
whole_text false between n = decimal n

-- a point and so many places, if there are any
abbrev pub fraction_text : ℕ → ℕ → ℕ → List ℕ
fraction_text point zero n = []
fraction_text point (suc places) n = point ∷ last_decimals (suc places) n

-- a magnitude and whether it is below 0
abbrev pub magnitude_text : Bool → ℕ → ℕ → ℕ → Bool → ℕ → List ℕ
magnitude_text grouped between point places negative n =
    sign_of false negative
    ++ (whole_text grouped between (n / 10 ^ places) ++ fraction_text point places n)

-- an amount: `-12.50` is -1250 with two places
abbrev pub amount_text : Bool → ℕ → ℕ → ℕ → ℤ → List ℕ
amount_text grouped between point places z =
    magnitude_text grouped between point places (is_negative z) (unsigned_abs z)

-- ---- which words read it

-- a word of radix 10, by which the point is neither a digit nor a separator
pub record ReadsAmounts (word point : ℕ) : Type 0 where
  pub supported : IsTrue (is_supported word)
  pub decimal : IsDecimal word
  pub apart : class (rule_of word Integer) (Some point) ≡ Other

-- one that also drops the byte between groups
pub record ReadsPrices (word point between : ℕ) : Type 0 where
  pub amounts : ReadsAmounts word point
  pub some : 0 < between
  pub separates : separator word ≡ between
  pub internal : bit word 32 ≡ true
