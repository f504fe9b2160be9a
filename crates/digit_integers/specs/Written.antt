-- Text that was written.
use Rattle.std.specs.Prelude.{◌≡◌, ℕ, ◌+◌, List, length, slice_range}
use Rattle.lexical_digits.specs.declared.skip.rule.Rule.{Rule}
use Rattle.lexical_digits.specs.Follows.{Ends}

-- some bytes are in a text from a position on, and a number ends after them
pub record IsWrittenAt (rule : Rule) (text : List ℕ) (start : ℕ) (written : List ℕ) : Type 0 where
  pub same : slice_range text start (start + length written) ≡ written
  pub ends : Ends rule text (start + length written)
