-- What stands behind the end of a number makes no difference to the number.
use Rattle.std.proofs.Common.{◌≡◌, ℕ, ◌≤◌, List, refl, ap, ◌∙◌, arith}
use Rattle.std.specs.Prelude.{Result, Ok, Err}
use Rattle.lexical_digits.specs.declared.skip.rule.Rule.{Rule}
use Rattle.lexical_digits.specs.Follows.{AreSameUpTo}
use Rattle.lexical_digits.specs.Moves.{outcome_later}
use Rattle.lexical_digits.proofs.Calls.BothSides.{zero_later}
use Rattle.lexical_digits.proofs.Calls.WhatFollows.{from_upto, same_range}
use Rattle.digit_values.specs.declared.LiteralError.{LiteralError}
use Rattle.digit_values.specs.declared.LiteralError.TheVariants.{Empty, Overflow}
use Rattle.digit_values.specs.After.{digits_between}
use Rattle.digit_integers.specs.Integers.{integer_at}
use Rattle.digit_values.specs.Moves.{literal_later}
use Rattle.digit_integers.specs.Numbers.{digits_from, number_at}
use Rattle.digit_integers.proofs.BothSides.{cut_integer, cut_number}

-- an outcome with positions later by 0
pub outcome_here : {A : Type 0} (read : Result (A × ℕ) LiteralError)
    → outcome_later literal_later 0 read ≡ read
outcome_here (Ok (x, end)) = rw (← zero_later end) refl
outcome_here (Err (Empty at)) = rw (← zero_later at) refl
outcome_here (Err (Overflow at)) = rw (← zero_later at) refl

module _ (rule : Rule) (one other : List ℕ) (at : ℕ) (upto : AreSameUpTo rule one other at) where
  pub same_between : (start end : ℕ) → end ≤ at
      → digits_between rule one start end ≡ digits_between rule other start end
  same_between start end l = rw (same_range one other at upto.same start end l) refl

  pub same_integer : (start most : ℕ) → start ≤ at
      → integer_at rule one start most ≡ integer_at rule other start most
  same_integer start most low =
      ap (λ n. integer_at rule one n most) (zero_later start)
      ∙ cut_integer rule one 0 other at (from_upto rule one other at upto) start most low
      ∙ outcome_here (integer_at rule other start most)

  pub same_number : (least most start : ℕ) → digits_from least one start ≤ at
      → digits_from least other start ≤ at
      → number_at least most rule one start ≡ number_at least most rule other start
  same_number least most start high low =
      cut_number rule one 0 other at (from_upto rule one other at upto) least most start start
      (zero_later start) (omega (arith, high)) low
      ∙ outcome_here (number_at least most rule other start)

-- what `what_follows_changes_no_number` promises
pub ruleset follows = (same_between, same_integer, same_number)
