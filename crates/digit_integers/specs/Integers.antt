-- The integer that begins at a position of a text, and why there is none.
use Rattle.std.specs.Prelude.{◌≡◌, ℕ, ◌<◌, ◌≤◌, [], ◌+◌, ◌-◌, ◌==◌, nat_lt, if◌then◌else◌, List, length, find, unwrap_or, Result, Ok, Err}
use Rattle.std.specs.List.{range_with_len}
use Rattle.std.specs.Str.Parse.{digits_value}
use Rattle.lexical_digits.specs.declared.skip.rule.Rule.{Rule}
use Rattle.lexical_digits.specs.Stop.{stop}
use Rattle.digit_values.specs.declared.LiteralError.{LiteralError}
use Rattle.digit_values.specs.declared.LiteralError.TheVariants.{Empty, Overflow}
use Rattle.digit_values.specs.After.{digits_between, ExceedsAt}

module _ (rule : Rule) (text : List ℕ) (start : ℕ) where
  -- the value of the digits up to a position
  abbrev pub value_to : ℕ → ℕ
  value_to end = digits_value rule.radix (digits_between rule text start end)

  -- the first position with whose digit the value is above `most`
  abbrev pub first_over : ℕ → ℕ
  first_over most =
      unwrap_or (find (λ at. nat_lt most (value_to (at + 1)))
      (range_with_len start (length text - start))) (length text)

  -- The integer that begins here, and where it ends: at the stop. There is none if no digit is
  -- before the stop, or the value is above `most`.
  unfoldable pub integer_at : ℕ → Result (ℕ × ℕ) LiteralError
  integer_at most =
      let end = stop rule text start 0 in
      if length (digits_between rule text start end) == 0 then Err (Empty end)
      else if nat_lt most (value_to end) then Err (Overflow (first_over most))
      else Ok (value_to end, end)

  -- ---- what each outcome says

  -- there are digits before the stop, and their value is at most `most`
  pub record IsIntegerFrom (most value end : ℕ) : Type 0 where
    pub ends : end ≡ stop rule text start 0
    pub some : 0 < length (digits_between rule text start end)
    pub is : value ≡ value_to end
    pub fits : value ≤ most

  -- there is none
  pub record HasNoDigitFrom (at : ℕ) : Type 0 where
    pub stops : at ≡ stop rule text start 0
    pub none : digits_between rule text start at ≡ []

  -- the one at this position is the first with which the value is above `most`
  abbrev pub IsTooLargeFrom : ℕ → ℕ → Type 0
  IsTooLargeFrom most at = ExceedsAt rule text start 0 0 most at
