-- For those who call the readers of this crate.
use Rattle.std.proofs.Common.{◌≡◌, ℕ, ◌-◌, ◌^◌, ◌<◌, ◌≤◌, List, length, arith}
use Rattle.std.specs.Prelude.{Err}
use Rattle.std.specs.List.{filter}
use Rattle.std.specs.Str.Parse.{digits_value}
use Rattle.std.proofs.Math.Nat.{pow-le-pow_right}
use Rattle.std.proofs.lemmas.Bool.Decides.{nat_tests}
use Rattle.std.proofs.lemmas.Int.Digits.{digits_value-lt}
use Rattle.lexical_digits.specs.declared.skip.rule.Rule.{Rule}
use Rattle.lexical_digits.specs.Separators.{is_digit}
use Rattle.lexical_digits.specs.Stop.{stop}
use Rattle.lexical_digits.specs.State.{rule}
use Rattle.digit_values.specs.After.{digits_between}
use Rattle.digit_values.specs.declared.LiteralError.TheVariants.{Overflow}
use Rattle.digit_integers.specs.Integers.{integer_at}
use Rattle.digit_values.proofs.Between.{fewer}
use Rattle.digit_values.proofs.ForCallers.{all_digits}

-- a text of at most n digits isn't too large, where as many of the highest digit fit
pub few_digits_fit : (rule : Rule) (text : List ℕ) (at n : ℕ)
    → integer_at rule text 0 (2 ^ 64 - 1) ≡ Err (Overflow at) → 1 ≤ rule.radix
    → rule.radix ^ n ≤ 2 ^ 64 → length (filter (is_digit rule) text) ≤ n → ⊥
unfolding integer_at
few_digits_fit rule text at n h some fits few =
    let end = stop rule text 0 0 in
    let read : List ℕ = digits_between rule text 0 end in
    let large : 2 ^ 64 - 1 < digits_value rule.radix read = grind (arith, nat_tests, h) in
    let below = digits_value-lt rule.radix read (all_digits rule _) in
    let at_most : length read ≤ n = omega (arith, few, fewer (is_digit rule) (end - 0) text) in
    omega (arith, fits, large, below, pow-le-pow_right {n = rule.radix} some at_most)
