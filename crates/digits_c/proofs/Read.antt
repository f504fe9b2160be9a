-- The integer of the parts of a number that was read is that of the number.
use Rattle.std.proofs.Common.{◌≡◌, ℕ, ◌+◌, ◌*◌, ◌/◌, ◌%◌, ◌^◌, List, refl, arith}
use Rattle.std.specs.Prelude.{Bool, true, false, length, nat_lt, if◌then◌else◌, Option, Some, None, Result, Ok, Err}
use Rattle.std.specs.Float.{Float, binary64}
use Rattle.digits.specs.Numbers as numbers
use Rattle.digits.specs.Words.{Form, Number, NumberError, number_of_at, integer_in}
use Rattle.digits_c.specs.declared.outcome.Outcome.{Outcome}
use Rattle.digits_c.specs.declared.outcome.TheConstants.{BAD_START}
use Rattle.digits_c.specs.declared.numbers.NumberParts.{NumberParts}
use Rattle.digits_c.specs.Calls.{or_fault}
use Rattle.digits_c.specs.Numbers.{in_parts, no_parts, number_by, integer_of, integer_by, integer_read, parts_of}
use Rattle.digits_c.specs.Outcomes.{Answers, fault, number_fault}

module _ (least most : ℕ) where
  -- both halves of a magnitude
  of_parts : (n : Number Float) → integer_of least most (parts_of n) ≡ integer_in least most n
  of_parts (numbers.Integer negative magnitude word) =
      let whole : magnitude % 2 ^ 64 + magnitude / 2 ^ 64 * 2 ^ 64 ≡ magnitude = omega arith in
      rw whole refl
  of_parts (numbers.Float x) = refl

  module _ (start : ℕ) (n : NumberParts) (outcome : Outcome) where
    from : (late : Bool) (read : Result (Number Float × ℕ) NumberError)
        → Answers no_parts (if late then Err (fault BAD_START start)
        else or_fault number_fault (in_parts read)) n outcome
        → integer_of least most n ≡ (if late then None else integer_read least most read)
    from true read (is, ends) = rw is refl
    from false (Ok (number, end)) (is, ends) = rw is (of_parts number)
    from false (Err error) (is, ends) = rw is refl

    pub read_is : (text : List ℕ) (form : Option Form)
        → Answers no_parts (number_by text start form) n outcome
        → integer_of least most n ≡ integer_by least most text start form
    read_is text None (is, ends) = rw is refl
    read_is text (Some form) answers =
        from (nat_lt (length text) start) (number_of_at form text start binary64) answers
