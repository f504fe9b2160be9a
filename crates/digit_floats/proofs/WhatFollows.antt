-- What stands behind the end of a float makes no difference to the float, nor to a decimal number.
use Rattle.std.proofs.Common.{◌≡◌, ℕ, ◌≤◌, List, refl, ◌∙◌}
use Rattle.std.specs.Prelude.{Result, Ok, Err}
use Rattle.std.specs.Float.{Format}
use Rattle.lexical_digits.specs.declared.skip.component.Component.TheVariants.{Integer, Fraction, Exponent}
use Rattle.lexical_digits.specs.Moves.{outcome_later}
use Rattle.lexical_digits.proofs.Calls.BothSides.{AreSameFrom, from_start, zero_later}
use Rattle.digit_floats.specs.declared.error.FloatError.{FloatError}
use Rattle.digit_floats.specs.declared.error.FloatError.TheVariants as floats
use Rattle.digit_floats.specs.declared.parts.Marks.{Marks}
use Rattle.digit_floats.specs.Decimals.{read_decimal_at}
use Rattle.digit_floats.specs.Float.{read_at}
use Rattle.digit_floats.specs.Follows.{IsSameFloatUpTo}
use Rattle.digit_floats.specs.Moves.{float_later}
use Rattle.digit_floats.proofs.BothSides.{NoFloat, no_float, cut_float, cut_decimal}

-- an outcome with positions later by 0
outcome_here : {A : Type 0} (read : Result (A × ℕ) FloatError)
    → outcome_later float_later 0 read ≡ read
outcome_here (Ok (x, end)) = rw (← zero_later end) refl
outcome_here (Err (floats.Empty at)) = rw (← zero_later at) refl
outcome_here (Err (floats.EmptyExponent at)) = rw (← zero_later at) refl
outcome_here (Err (floats.Invalid at)) = rw (← zero_later at) refl

pub from_upto : (word : ℕ) (marks : Marks) (one other : List ℕ) (at : ℕ)
    → IsSameFloatUpTo word marks one other at → AreSameFrom (NoFloat word marks) one 0 other at
from_upto word marks one other at upto =
    from_start (NoFloat word marks) (no_float word marks) one other at
    (upto.digits Integer).same
    (record {
      scaled = record {
        whole = (upto.digits Integer).one_ends;
        part = (upto.digits Fraction).one_ends;
        point = upto.one_ends.point;
        sign = upto.one_ends.sign;
      };
      power = (upto.digits Exponent).one_ends;
      mark = upto.one_ends.mark;
    })
    (record {
      scaled = record {
        whole = (upto.digits Integer).other_ends;
        part = (upto.digits Fraction).other_ends;
        point = upto.other_ends.point;
        sign = upto.other_ends.sign;
      };
      power = (upto.digits Exponent).other_ends;
      mark = upto.other_ends.mark;
    })

module _ (word : ℕ) (marks : Marks) (one other : List ℕ) (at : ℕ)
    (both : AreSameFrom (NoFloat word marks) one 0 other at) where
  pub same_float : (i : ℕ) → i ≤ at → (f : Format)
      → read_at word one marks f i ≡ read_at word other marks f i
  same_float i l f =
      cut_float word marks one 0 other at both i i (zero_later i) l f
      ∙ outcome_here (read_at word other marks f i)

  pub same_decimal : (i : ℕ) → i ≤ at
      → read_decimal_at word one marks i ≡ read_decimal_at word other marks i
  same_decimal i l =
      cut_decimal word marks one 0 other at both i i (zero_later i) l
      ∙ outcome_here (read_decimal_at word other marks i)
