-- Digits from a position on, in a text and in one that begins there: what is before the position,
-- and what follows a byte that ends them, make no difference.
use Rattle.std.proofs.Common.{◌≡◌, ℕ, ◌+◌, ◌≤◌, List, refl}
use Rattle.lexical_digits.specs.declared.skip.rule.Rule.{Rule}
use Rattle.lexical_digits.proofs.Calls.BothSides.{AreSameFrom, IsOther, cut_range}
use Rattle.digit_values.specs.After.{digits_between}

module _ (rule : Rule) (one : List ℕ) (from : ℕ) (other : List ℕ) (at : ℕ)
    (both : AreSameFrom (IsOther rule) one from other at) where
  pub cut_between : (start end : ℕ) → end ≤ at
      → digits_between rule one (from + start) (from + end) ≡ digits_between rule other start end
  cut_between start end l = rw (cut_range rule one from other at both start end l) refl
