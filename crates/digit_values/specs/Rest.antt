-- What is left of a component's digits after one with which the value is too large.
use Rattle.std.specs.Prelude.{◌≡◌, ℕ, ◌<◌, ◌++◌, length}
use Rattle.std.specs.Str.Parse.{digits_value_after}
use Rattle.lexical_digits.specs.declared.skip.component.Component.{Component}
use Rattle.lexical_digits.specs.State.{State, rule}
use Rattle.lexical_digits.specs.Stop.{stop_of, leading_digits_of, past_digits_of}
use Rattle.digit_values.specs.After.{digits_to, past_digits_to}

-- at a position, after the digits before it: the others, of which there are some, and with which
-- the value after `before` is above `most` too; their stop, and what passing them leaves, are those
-- of the start
pub record LeavesRest (k : Component) (s : State) (before most at : ℕ) : Type 0 where
  pub digits : leading_digits_of k s
      ≡ digits_to k s at ++ leading_digits_of k (past_digits_to k s at)
  pub some : 0 < length (leading_digits_of k (past_digits_to k s at))
  pub over : most < digits_value_after (rule k s).radix before (leading_digits_of k s)
  pub stop : stop_of k (past_digits_to k s at) ≡ stop_of k s
  pub passed : past_digits_of k (past_digits_to k s at) ≡ past_digits_of k s
