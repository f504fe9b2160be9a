-- Of functions that no caller sees: digits that were read from a start on, up to where they end, or
-- up to the first with which their value is too large. No public clause uses these words.
use Rattle.std.specs.Prelude.{◌≡◌, ℕ, ◌+◌, ◌-◌, ◌*◌, ◌%◌, ◌^◌, ◌≤◌, ◌<◌, min, slice_index, Some, Bool, true, false, if◌then◌else◌, List, length, Option, IfSome, IfNone, MatchOption, Result, Ok, Err, pos, ◌≤ℤ◌, ◌+ℤ◌}
use Rattle.std.specs.Str.Parse.{digits_value_after}
use Rattle.lexical_format.specs.Digits.{digit_of_radix}
use Rattle.lexical_digits.specs.declared.skip.rule.Rule.{Rule}
use Rattle.lexical_digits.specs.declared.skip.component.Component.{Component}
use Rattle.lexical_digits.specs.Separators.{zeros, past_zeros, is_digit}
use Rattle.lexical_digits.specs.State.{rule, own}
use Rattle.lexical_digits.specs.Looks.{Held, owed, needs_run, separator_at}
use Rattle.lexical_digits.specs.Stop.{stop, past_digits_of}
use Rattle.digit_values.specs.After.{digits_between, past_digits_to, IsDigits, ExceedsAt}
use Rattle.digit_values.specs.declared.LiteralError.{LiteralError}
use Rattle.digit_values.specs.declared.LiteralError.TheVariants.{Empty, Overflow}
use Rattle.digit_values.specs.declared.reading.Digits.{Digits}
use Rattle.digit_values.specs.declared.reading.TooLarge.{TooLarge}
use Rattle.digit_values.specs.declared.slice.ReadTo.{ReadTo}
use Rattle.digit_values.specs.declared.zeros.ZerosTo.{ZerosTo}

-- a value is that of digits after another one, and at most the greatest
pub record IsWorth (radix before : ℕ) (digits : List ℕ) (value most : ℕ) : Type 0 where
  pub is : value ≡ digits_value_after radix before digits
  pub fits : value ≤ most

-- one with one more digit, which is at most the greatest
pub record IsMore (radix value digit more most : ℕ) : Type 0 where
  pub is : more ≡ value * radix + digit
  pub fits : more ≤ most

-- the first digit, with which the value is at most the greatest, if one is asked for
pub record IsFirst (rule : Rule) (text : List ℕ) (start before : ℕ) (most : Option ℕ) (digit : ℕ)
    : Type 0 where
  pub within : start < length text
  pub is : digit_of_radix rule.radix (slice_index text start) ≡ Some digit
  pub fits : MatchOption most (before * rule.radix + digit < 2 ^ 64)
      (λ m. before * rule.radix + digit ≤ m)

module _ (rule : Rule) (text : List ℕ) (start before : ℕ) (most : Option ℕ) (read : ReadTo) where
  -- The digits from the start up to an end were read, where so many were counted before. The end is
  -- the stop, or the first digit with which the value is above the greatest, if one is asked for.
  pub record ReadsTo (own : ℕ) : Type 0 where
    pub onward : start ≤ read.end
    pub within : read.end ≤ length text
    pub digits : read.count ≡ length (digits_between rule text start read.end)
    pub worth : IfSome most
        (IsWorth rule.radix before (digits_between rule text start read.end) read.value)
    pub stops : read.is_too_large ≡ false → read.end ≡ stop rule text start own
    pub exceeds : read.is_too_large ≡ true → MatchOption most ⊥
        (λ m. ExceedsAt rule text start own before m read.end)

  -- the same whatever was counted before, with at most one separator for each digit, and none at
  -- the end
  pub record IsOffSlice : Type 0 where
    pub reads : (own : ℕ) → ReadsTo own
    pub wrapped : IfNone most
        (read.value ≡ digits_value_after rule.radix before
        (digits_between rule text start read.end) % 2 ^ 64)
    pub other : separator_at rule.separator text read.end ≡ false
    pub below : start + read.count ≤ read.end
    pub dense : read.end ≤ start + 2 * read.count

module _ (rule : Rule) (text : List ℕ) (start before : ℕ) (most : Option ℕ) where
  -- The bytes from the start up to an end are digits. The value is that of the digits before them
  -- and of these.
  pub record ArePlain (end value : ℕ) : Type 0 where
    pub onward : start ≤ end
    pub within : end ≤ length text
    pub digits : (q : ℕ) → start ≤ q → q < end → is_digit rule (slice_index text q) ≡ true
    pub worth : IfSome most
        (IsWorth rule.radix before (digits_between rule text start end) value)
    pub wrapped : IfNone most (value ≡ digits_value_after rule.radix before
        (digits_between rule text start end) % 2 ^ 64)

-- The bytes `0` from the start on were passed, whatever was counted before, with at most one
-- separator for each, and none at the end.
pub record AreZeros (rule : Rule) (text : List ℕ) (start : ℕ) (read : ZerosTo) : Type 0 where
  pub is : (own : ℕ) → zeros rule text start own ≡ read.count
  pub past : (own : ℕ) → past_zeros rule text start own ≡ read.end
  pub other : separator_at rule.separator text read.end ≡ false
  pub below : start + read.count ≤ read.end
  pub within : read.end ≤ length text
  pub dense : read.end ≤ start + 2 * read.count

-- What a read of a component leaves of a `Bytes`, which was a before: the digits that were read are
-- passed, and counted as by `next`. The next read has no run to look for.
pub record Passes (k : Component) (before : ℕ) (most : Option ℕ) (a b : Held) (read : ReadTo)
    : Type 0 where
  pub reads : ReadsTo (rule k a.state) a.state.buffer a.state.cursor before most read
      (own k a.state)
  pub state : b.state ≡ past_digits_to k a.state read.end
  pub remembers : needs_run k b ≡ false
  pub owes : owed b ≤ℤ (owed a +ℤ pos (8 * read.count + 4))
  pub at_least : min (a.looks + 2 * read.count) (2 ^ 64 - 1) ≤ b.looks

-- what a reader of digits answers
abbrev pub outcome : ReadTo → Result Digits TooLarge
outcome read =
    if read.is_too_large
    then Err (record { at = read.end; value = read.value; count = read.count })
    else Ok (record { value = read.value; count = read.count })

-- what a reader of an integer answers, where it is told whether there is no digit
abbrev pub integer_of : ReadTo → Bool → Result (ℕ × ℕ) LiteralError
integer_of read is_empty =
    if read.is_too_large
    then Err (Overflow read.end)
    else if is_empty
    then Err (Empty read.end)
    else Ok (read.value, read.end)

-- the answer of a reader of a component, where a `Bytes` was a before and is b after
pub record ReadsOn (k : Component) (before : ℕ) (most : Option ℕ) (a b : Held)
    (result : Result Digits TooLarge) : Type 0 where
  pub read : ReadTo
  pub passes : Passes k before most a b read
  pub is : result ≡ outcome read

-- all digits that lead were read and passed, and their value is at most the greatest
pub record PassesAll (k : Component) (before most : ℕ) (a b : Held) (read : Digits) : Type 0 where
  pub ok : IsDigits k a.state before read
  pub fits : read.value ≤ most
  pub passed : b.state ≡ past_digits_of k a.state
  pub remembers : needs_run k b ≡ false
  pub owes : owed b ≤ℤ (owed a +ℤ pos (8 * read.count + 4))
  pub at_least : min (a.looks + 2 * read.count) (2 ^ 64 - 1) ≤ b.looks
