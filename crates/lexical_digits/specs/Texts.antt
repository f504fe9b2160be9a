-- Texts in words of their bytes, for the most common states of the flags.
use Rattle.std.specs.Prelude.{◌≡◌, ℕ, ◌+◌, ◌<◌, ◌≤◌, Bool, true, false, not, ◌&&◌, ◌||◌, List, length, take, drop, reverse, find, slice_get}
use Rattle.lexical_digits.specs.declared.skip.rule.Rule.{Rule}
use Rattle.lexical_digits.specs.Separators.{is_digit, is_separator, holds_separator}
use Rattle.lexical_digits.specs.Cursor.{holds_of}
use Rattle.lexical_digits.specs.Looks.{slice_before}

-- ---- states of the flags

-- the internal flag alone
pub record IsInternalAlone (rule : Rule) : Type 0 where
  pub internal : rule.internal ≡ true
  pub leading : rule.leading ≡ false
  pub trailing : rule.trailing ≡ false
  pub consecutive : rule.consecutive ≡ false

-- the internal and the consecutive flag
pub record IsInternalInRuns (rule : Rule) : Type 0 where
  pub internal : rule.internal ≡ true
  pub leading : rule.leading ≡ false
  pub trailing : rule.trailing ≡ false
  pub consecutive : rule.consecutive ≡ true

-- ---- bytes of a text

-- whether a digit stands at a position, or just before it
abbrev pub holds_digit : Rule → List ℕ → ℕ → Bool
holds_digit rule text q = holds_of (is_digit rule) (slice_get text q)

abbrev pub digit_before : Rule → List ℕ → ℕ → Bool
digit_before rule text q = holds_of (is_digit rule) (slice_before text q)

-- whether a byte is a digit or a separator
abbrev pub is_digit_or_separator : Rule → List ℕ → ℕ → Bool
is_digit_or_separator rule text q = holds_digit rule text q || holds_separator rule text q

-- whether a byte is a digit, or a separator between two digits
abbrev pub is_digit_or_between : Rule → List ℕ → ℕ → Bool
is_digit_or_between rule text q =
    holds_digit rule text q
    || (holds_separator rule text q && digit_before rule text q && holds_digit rule text (q + 1))

-- whether the first of some bytes that is no separator is a digit
abbrev pub leads_to_digit : Rule → List ℕ → Bool
leads_to_digit rule bytes =
    holds_of (is_digit rule) (find (λ byte. not (is_separator rule.separator byte)) bytes)

-- whether a byte is a digit, or a separator in a run of them between two digits
abbrev pub is_digit_or_in_run : Rule → List ℕ → ℕ → Bool
is_digit_or_in_run rule text q =
    holds_digit rule text q
    || (holds_separator rule text q && leads_to_digit rule (reverse (take q text))
    && leads_to_digit rule (drop (q + 1) text))

-- ---- texts

abbrev pub AllDigitsOrSeparators : Rule → List ℕ → Type 0
AllDigitsOrSeparators rule text =
    (q : ℕ) → q < length text → is_digit_or_separator rule text q ≡ true

abbrev pub AllDigitsOrBetween : Rule → List ℕ → Type 0
AllDigitsOrBetween rule text =
    (q : ℕ) → q < length text → is_digit_or_between rule text q ≡ true

-- each byte is a digit or a separator, and the first and the last are digits
pub record IsFromDigitToDigit (rule : Rule) (text : List ℕ) : Type 0 where
  pub all : AllDigitsOrSeparators rule text
  pub first : 0 < length text → holds_digit rule text 0 ≡ true
  pub last : 0 < length text → digit_before rule text (length text) ≡ true

-- q is the first of the positions from start on and below n that fails a test, or n if none fails
pub record IsFirstFaultFrom (start : ℕ) (passes : ℕ → Bool) (n q : ℕ) : Type 0 where
  pub onward : start ≤ q
  pub within : q ≤ n
  pub before : (p : ℕ) → start ≤ p → p < q → passes p ≡ true
  pub at : q < n → passes q ≡ false

-- q is the first of the positions below n that fails a test, or n if none fails
pub record IsFirstFault (passes : ℕ → Bool) (n q : ℕ) : Type 0 where
  pub within : q ≤ n
  pub before : (p : ℕ) → p < q → passes p ≡ true
  pub at : q < n → passes q ≡ false
