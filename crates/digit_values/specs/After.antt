-- What reading the digits that lead answers, in words of a text and of a state.
use Rattle.std.specs.Prelude.{◌≡◌, ℕ, ◌+◌, ◌-◌, ◌^◌, ◌<◌, ◌≤◌, if◌then◌else◌, List, length, filter, slice_range, Result, Ok, Err}
use Rattle.std.specs.Str.Parse.{digits_value_after}
use Rattle.lexical_digits.specs.declared.skip.rule.Rule.{Rule}
use Rattle.lexical_digits.specs.declared.skip.component.Component.{Component}
use Rattle.lexical_digits.specs.Separators.{is_digit}
use Rattle.lexical_digits.specs.State.{State, with_cursor, rule, own, with_own, counts, saturating}
use Rattle.lexical_digits.specs.Stop.{stop, leading_digits_of}
use Rattle.digit_values.specs.declared.reading.Digits.{Digits}
use Rattle.digit_values.specs.declared.reading.TooLarge.{TooLarge}

-- ---- by a rule, from a start on

module _ (rule : Rule) (text : List ℕ) (start : ℕ) where
  -- the digits from the start up to a position
  abbrev pub digits_between : ℕ → List ℕ
  digits_between end = filter (is_digit rule) (slice_range text start end)

  -- The digit at this position is before the stop from the start and a count on. It is the first
  -- with which the value is above `most`.
  pub record ExceedsAt (count before most at : ℕ) : Type 0 where
    pub onward : start ≤ at
    pub before_stop : at < stop rule text start count
    pub fits : digits_value_after rule.radix before (digits_between at) ≤ most
    pub passes : most < digits_value_after rule.radix before (digits_between (at + 1))

  -- it is the first with which the value does not fit
  abbrev pub PassesAt : ℕ → ℕ → ℕ → Type 0
  PassesAt count before at = ExceedsAt count before (2 ^ 64 - 1) at

-- ---- of a component, from the cursor of a state on

module _ (k : Component) (s : State) where
  -- the digits of a component from the cursor up to a position
  abbrev pub digits_to : ℕ → List ℕ
  digits_to end = digits_between (rule k s) s.buffer s.cursor end

  -- the state at a position, where `next` counted the digits on the way, if it counts at all
  abbrev pub past_digits_to : ℕ → State
  past_digits_to at =
      let count =
      if counts k s.word
      then saturating (own k s) (length (digits_to at))
      else own k s in
      with_cursor (with_own k s count) at

  -- the value with all digits that lead, and how many these are
  pub record IsDigits (before : ℕ) (read : Digits) : Type 0 where
    pub is : read.value ≡ digits_value_after (rule k s).radix before (leading_digits_of k s)
    pub digits : read.count ≡ length (leading_digits_of k s)

  -- an error has the value and the number of the digits before its position
  pub record IsReadTo (before : ℕ) (error : TooLarge) : Type 0 where
    pub is : error.value ≡ digits_value_after (rule k s).radix before (digits_to error.at)
    pub digits : error.count ≡ length (digits_to error.at)

-- ---- of an answer

-- how many digits were read
abbrev pub digits_read : Result Digits TooLarge → ℕ
digits_read (Ok read) = read.count
digits_read (Err error) = error.count
