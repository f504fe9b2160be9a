-- An integer up to its stop, where a digit of it is too large for a smaller value.
use Rattle.std.proofs.Common.{ℕ, ◌+◌, ◌<◌, List, [], ◌∷◌, length, arith}
use Rattle.std.specs.Str.Parse.{digits_value}
use Rattle.lexical_digits.specs.Stop.{stop}
use Rattle.lexical_digits.specs.declared.skip.rule.Rule.{Rule}
use Rattle.digit_values.specs.After.{digits_between, ExceedsAt}
use Rattle.digit_values.proofs.Between.{fewer_between}

-- digits of a value above a number are some
some_above : (radix most : ℕ) (ds : List ℕ) → most < digits_value radix ds → 0 < length ds
some_above radix most [] h = omega (arith, h)
some_above radix most (d ∷ ds) h = omega arith

-- there are digits before the stop, if one of them is too large
pub some_before_stop : (rule : Rule) (text : List ℕ) (start most at : ℕ)
    → ExceedsAt rule text start 0 0 most at
    → 0 < length (digits_between rule text start (stop rule text start 0))
some_before_stop rule text start most at h =
    let some = some_above rule.radix most (digits_between rule text start (at + 1)) h.passes in
    let end = stop rule text start 0 in
    omega (arith, some, fewer_between rule text start (at + 1) end (omega (arith, h.before_stop)))
