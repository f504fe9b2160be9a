-- Two texts with the same bytes before a position where a number ends, whatever follows.
use Rattle.std.specs.Prelude.{◌≡◌, ℕ, ◌≤◌, List, length, take, slice_get}
use Rattle.lexical_digits.specs.declared.skip.rule.Rule.{Rule}
use Rattle.lexical_digits.specs.declared.skip.rule.Class.TheVariants.{Other}
use Rattle.lexical_digits.specs.Separators.{class}

-- a text ends at a position, or has a byte there that is neither a digit nor the separator
abbrev pub Ends : Rule → List ℕ → ℕ → Type 0
Ends rule text at = class rule (slice_get text at) ≡ Other

-- two texts are the same up to a position, where each ends or has a byte that ends a number
pub record AreSameUpTo (rule : Rule) (one other : List ℕ) (at : ℕ) : Type 0 where
  pub same : take at one ≡ take at other
  pub one_within : at ≤ length one
  pub other_within : at ≤ length other
  pub one_ends : Ends rule one at
  pub other_ends : Ends rule other at
