-- A length of time in parts, as `1h30m`: each an integer and a unit.
use Rattle.std.specs.Prelude.{◌≡◌, ℕ, ◌+◌, ◌-◌, ◌*◌, ◌^◌, ◌<◌, if◌then◌else◌, List, Option, Some, None, Result, Ok, Err, IsOkAnd}
use Rattle.digits.specs.Formats.{PYTHON_LITERAL}
use Rattle.digits.specs.LiteralErrors as literals
use Rattle.digits.specs.Words.{Integer, LiteralError, has_byte, integer_at, rule_of}
use Rattle.digit_uses.specs.declared.durations.Fault.{Fault}
use Rattle.digit_uses.specs.declared.durations.Cause.{Cause}
use Rattle.digit_uses.specs.declared.durations.Cause.TheVariants.{Empty, TooLarge, NoUnit}
use Rattle.digit_uses.specs.declared.durations.Fault.TheVariants.{NoPart, TooLong}

module _ (text : List ℕ) where
  -- the milliseconds of the unit at a position, and where it ends
  abbrev pub unit_at : ℕ → Option (ℕ × ℕ)
  unit_at at =
      if has_byte text at 104 then Some (3_600_000, at + 1)
      else if has_byte text at 109
      then (if has_byte text (at + 1) 115 then Some (1, at + 2) else Some (60_000, at + 1))
      else if has_byte text at 115 then Some (1000, at + 1)
      else None

  -- the integer at a position, and where it ends
  abbrev pub value_at : ℕ → Result (ℕ × ℕ) LiteralError
  value_at start = integer_at (rule_of PYTHON_LITERAL Integer) text start (2 ^ 32 - 1)

  -- an integer and its unit, worth so many milliseconds
  pub record IsPart (start worth end : ℕ) : Type 0 where
    pub value : ℕ
    pub factor : ℕ
    pub at : ℕ
    pub integer : value_at start ≡ Ok (value, at)
    pub unit : unit_at at ≡ Some (factor, end)
    pub is : worth ≡ value * factor

  -- the text up to a position is parts that are worth so much together
  pub data Sums : ℕ → ℕ → Type 0 where
    none : Sums 0 0
    more : (start before worth end sum : ℕ) → Sums start before → IsPart start worth end
        → sum ≡ before + worth → Sums end sum

  -- why there is no part here
  abbrev pub IsCause : ℕ → Cause → Type 0
  IsCause start (Empty at) = value_at start ≡ Err (literals.Empty at)
  IsCause start (TooLarge at) = value_at start ≡ Err (literals.Overflow at)
  IsCause start (NoUnit at) =
      IsOkAnd (value_at start) (λ read. read.1 ≡ at) × (unit_at at ≡ None)

  -- there is none after these parts
  pub record IsNoPart (start : ℕ) (why : Cause) : Type 0 where
    pub sum : ℕ
    pub before : Sums start sum
    pub cause : IsCause start why

  -- there is one, with which the sum is too large
  pub record IsTooLong (start : ℕ) : Type 0 where
    pub sum : ℕ
    pub worth : ℕ
    pub end : ℕ
    pub before : Sums start sum
    pub part : IsPart start worth end
    pub exceeds : 2 ^ 64 - 1 < sum + worth

  abbrev pub IsFault : Fault → Type 0
  IsFault (NoPart start cause) = IsNoPart start cause
  IsFault (TooLong start) = IsTooLong start
