-- What reading the digits that lead an iterator answers, and what it leaves.
use Rattle.std.specs.Prelude.{◌≡◌, ⊤, ℕ, ℤ, ◌+◌, ◌-◌, ◌*◌, ◌^◌, ◌<◌, ◌≤◌, pos, ◌≤ℤ◌, ◌+ℤ◌, List, [], length, take, Result, Ok, Err}
use Rattle.std.specs.Fn.{iterate}
use Rattle.std.specs.Str.Parse.{digits_value, digits_value_after}
use Rattle.lexical_format.specs.Digits.{is_digit_of_radix}
use Rattle.lexical_digits.specs.Stop.{leading, after_leading}
use Rattle.digit_values.specs.declared.LiteralError.{LiteralError}
use Rattle.digit_values.specs.declared.LiteralError.TheVariants.{Empty, Overflow}
use Rattle.digit_values.specs.declared.reading.Digits.{Digits}
use Rattle.digit_values.specs.declared.reading.TooLarge.{TooLarge}

-- a fact for one error, with its position
abbrev pub IfEmpty : {T : Type 0} → Result T LiteralError → (ℕ → Type 0) → Type 0
IfEmpty (Ok v) P = ⊤
IfEmpty (Err (Empty at)) P = P at
IfEmpty (Err (Overflow at)) P = ⊤

abbrev pub IfOverflow : {T : Type 0} → Result T LiteralError → (ℕ → Type 0) → Type 0
IfOverflow (Ok v) P = ⊤
IfOverflow (Err (Empty at)) P = ⊤
IfOverflow (Err (Overflow at)) P = P at

module _ {M : Type 0} (buffer : M → List ℕ) (cursor place : M → ℕ) (taken settled : M → M)
    (radix : ℕ) where
  -- the digits of a radix that lead the items of a meaning
  abbrev pub digits : M → List ℕ
  digits m = leading buffer cursor place taken (is_digit_of_radix radix) m

  -- ---- after a value, up to a greatest value

  module _ (before most : ℕ) (m : M) where
    -- the value with the first n of them
    abbrev pub value_with : ℕ → ℕ
    value_with n = digits_value_after radix before (take n (digits m))

    -- the value is at most `most` with all of them: each was taken
    pub record ReadsAfter (read : Digits) (after : M) : Type 0 where
      pub is : read.value ≡ digits_value_after radix before (digits m)
      pub fits : read.value ≤ most
      pub counts : read.count ≡ length (digits m)
      pub leaves : after
          ≡ after_leading buffer cursor place taken settled (is_digit_of_radix radix) m

    -- one of them is the first with which the value is above `most`: those before it were taken
    pub record ExceedsMost (at : ℕ) (after : M) : Type 0 where
      pub read : ℕ
      pub within : read < length (digits m)
      pub fits : value_with read ≤ most
      pub passes : most < value_with (read + 1)
      pub stands : at ≡ place (iterate taken read m)
      pub leaves : after ≡ settled (iterate taken read m)

    -- the same of an error, with the value and the number of the digits before it
    pub record StopsAt (error : TooLarge) (after : M) : Type 0 where
      pub exceeds : ExceedsMost error.at after
      pub value : error.value ≡ value_with exceeds.read
      pub count : error.count ≡ exceeds.read

  -- ---- a literal: no two of the three can hold of one meaning

  module _ (m : M) where
    -- there are some, and their value fits: each was taken
    pub record ReadsAll (value : ℕ) (after : M) : Type 0 where
      pub some : 0 < length (digits m)
      pub is : value ≡ digits_value radix (digits m)
      pub fits : value < 2 ^ 64
      pub leaves : after
          ≡ after_leading buffer cursor place taken settled (is_digit_of_radix radix) m

    -- there is none: nothing was taken
    pub record FindsNone (at : ℕ) (after : M) : Type 0 where
      pub none : digits m ≡ []
      pub stands : at ≡ place m
      pub leaves : after ≡ settled m

    -- one of them is the first with which the value does not fit: those before it were taken
    abbrev pub PassesMost : ℕ → M → Type 0
    PassesMost at after = ExceedsMost 0 (2 ^ 64 - 1) m at after

    -- the same, and what is owed: for the digits before it only
    pub record OverflowsAt (owed : ℤ) (at : ℕ) (after : M) (owed_after : ℤ) : Type 0 where
      pub passes : PassesMost at after
      pub owes : owed_after ≤ℤ (owed +ℤ pos (8 * passes.read + 4))
