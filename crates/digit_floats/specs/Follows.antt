-- Two texts with the same bytes before a position where a float ends, whatever follows.
use Rattle.std.specs.Prelude.{◌≡◌, ℕ, false, List}
use Rattle.lexical_digits.specs.declared.skip.component.Component.{Component}
use Rattle.lexical_digits.specs.State.{rule_of}
use Rattle.lexical_digits.specs.Follows.{AreSameUpTo}
use Rattle.digit_floats.specs.declared.parts.Marks.{Marks}
use Rattle.digit_floats.specs.Bytes.{stands, is_sign, is_point, is_mark}

-- at a position is neither a point nor the mark of an exponent nor a sign
pub record HasNoMark (marks : Marks) (text : List ℕ) (at : ℕ) : Type 0 where
  pub point : stands (is_point marks.point) text at ≡ false
  pub mark : stands (is_mark marks.exponent) text at ≡ false
  pub sign : stands is_sign text at ≡ false

-- two texts are the same up to a position, where each ends or has a byte that ends a float
pub record IsSameFloatUpTo (word : ℕ) (marks : Marks) (one other : List ℕ) (at : ℕ) : Type 0 where
  pub digits : (k : Component) → AreSameUpTo (rule_of word k) one other at
  pub one_ends : HasNoMark marks one at
  pub other_ends : HasNoMark marks other at
