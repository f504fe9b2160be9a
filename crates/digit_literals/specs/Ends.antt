-- Of lists and lines that are read by their ends: which bytes from a position on are no decimal
-- digits, by the bits of a word, the first of them by the lowest bit.
use Rattle.std.specs.Prelude.{◌≡◌, ℕ, ◌+◌, ◌≤◌, ◌<◌, ◌&&◌, not, nat_lt, Bool, true, false, List, length, slice_index, Ok, Err}
use Rattle.std.specs.Int.{bit_at}
use Rattle.lexical_digits.specs.declared.skip.rule.Rule.{Rule}
use Rattle.lexical_digits.specs.ByteSet.{accepts}
use Rattle.lexical_digits.specs.Separators.{is_separator}
use Rattle.digit_literals.specs.declared.ends.Place.{Place}
use Rattle.digit_literals.specs.declared.list.Gap.{Gap}
use Rattle.digit_literals.specs.Lists.{is_blank, next_after}

-- whether a byte is a decimal digit
abbrev pub is_decimal : ℕ → Bool
is_decimal byte = not (nat_lt byte 48) && nat_lt byte 58

module _ (text : List ℕ) (at : ℕ) where
  -- A bit that is set marks a byte that is no digit, after which the text has at least 23 bytes.
  -- Before a byte that is marked, those that aren't are digits.
  pub record AreOthers (others : ℕ) : Type 0 where
    pub room : (i : ℕ) → bit_at others i ≡ 1 → at + i + 24 ≤ length text
    pub marked : (i : ℕ) → bit_at others i ≡ 1
        → is_decimal (slice_index text (at + i)) ≡ false
    pub digits : (i j : ℕ) → i < j → bit_at others j ≡ 1 → bit_at others i ≡ 0
        → is_decimal (slice_index text (at + i)) ≡ true

  -- Of so many bytes each one that isn't marked is a digit.
  pub record EachIsMarked (count others : ℕ) : Type 0 where
    pub digits : (i : ℕ) → i < count → bit_at others i ≡ 0
        → is_decimal (slice_index text (at + i)) ≡ true

-- after a number that ends here the next one may be at a place, or the list is over
module _ (gap : Gap) (text : List ℕ) (end : ℕ) where
  pub record IsPlaceAfter (place : Place) : Type 0 where
    pub is : next_after gap text end ≡ Ok place.at
    pub onward : end < place.at
    pub within : place.at ≤ length text
    pub rest : AreOthers text place.at place.rest

  pub record IsOverAfter (over : ℕ) : Type 0 where
    pub is : next_after gap text end ≡ Err over
    pub onward : end ≤ over
    pub within : over ≤ length text

-- the numbers of a list may be read by their ends: digits are decimal and no blanks, and no byte
-- that separates two numbers is also dropped within one
pub record AreByEnds (rule : Rule) (gap : Gap) : Type 0 where
  pub ten : rule.radix ≡ 10
  pub digits : (byte : ℕ) → 48 ≤ byte → byte < 58 → is_blank gap byte ≡ false
  pub apart : (byte : ℕ) → accepts gap.separators byte ≡ true
      → is_separator rule.separator byte ≡ false
