-- Of functions that no caller sees: what is answered by readers of an integer of a text. No public
-- clause uses these words.
use Rattle.std.specs.Prelude.{◌≡◌, ℕ, ℤ, ◌<◌, ◌≤◌, List, length, Result, Ok, Err, IfOk, IfErr, MatchResult}
use Rattle.lexical_digits.specs.declared.skip.rule.Rule.{Rule}
use Rattle.digit_values.specs.declared.LiteralError.{LiteralError}
use Rattle.digit_integers.specs.declared.parse.ParseError.{ParseError}
use Rattle.digit_integers.specs.Errors.{position}
use Rattle.digit_integers.specs.Integers.{integer_at}
use Rattle.digit_integers.specs.Numbers.{number_at, to_end}
use Rattle.digit_values.specs.Outcomes.{IfEmpty, IfOverflow}

module _ (rule : Rule) (text : List ℕ) (start : ℕ) where
  -- the integer that begins here, up to a greatest value
  pub record ReadsInteger (most : ℕ) (result : Result (ℕ × ℕ) LiteralError) : Type 0 where
    pub is : result ≡ integer_at rule text start most
    pub fits : IfOk result (λ read. read.0 ≤ most)
    pub end : IfOk result (λ read. (start < read.1) × (read.1 ≤ length text))
    pub empty_at : IfEmpty result (λ at. (start ≤ at) × (at ≤ length text))
    pub overflow_at : IfOverflow result (λ at. (start ≤ at) × (at < length text))

  -- the value of the integer that the text is from here on to its end, if that is asked for
  abbrev pub IsToEnd : ℕ → Type 0
  IsToEnd value =
      (most : ℕ) → value ≤ most → integer_at rule text start most ≡ Ok (value, length text)

  -- the number of a type that the text is from here on to its end, or its first fault
  pub record ParsesFrom {V : Type 0} (number : V → ℤ) (least most : ℕ)
      (result : Result V ParseError) : Type 0 where
    pub is : let read = to_end text (number_at least most rule text start) in
        MatchResult result (λ value. read ≡ Ok (number value)) (λ error. read ≡ Err error)
    pub fault_at : IfErr result (λ error. (start ≤ position error) × (position error ≤ length text))
