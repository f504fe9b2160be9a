-- An integer that is too large has digits, and isn't 0.
use Rattle.std.proofs.Common.{◌≡◌, ℕ, ◌-◌, ◌^◌, ◌<◌, List, length, arith}
use Rattle.std.specs.Prelude.{Err}
use Rattle.std.proofs.lemmas.Bool.Decides.{nat_tests}
use Rattle.lexical_digits.specs.declared.skip.rule.Rule.{Rule}
use Rattle.lexical_digits.specs.declared.skip.component.Component.TheVariants.{Integer}
use Rattle.lexical_digits.specs.State.{rule_of}
use Rattle.lexical_digits.specs.Stop.{stop}
use Rattle.digit_values.specs.After.{digits_between}
use Rattle.digit_integers.specs.Integers.{integer_at}
use Rattle.digit_values.specs.declared.LiteralError.TheVariants.{Overflow}
use Rattle.digit_floats.specs.Float.{digits_end, digits_from}
unfoldable pub use Rattle.digit_floats.specs.Float.{components}

module _ (rule : Rule) (text : List ℕ) (start most over : ℕ)
    (h : integer_at rule text start most ≡ Err (Overflow over)) where
  pub has_digits : 0 < length (digits_between rule text start (stop rule text start 0))
  unfolding integer_at
  has_digits = grind (arith, nat_tests, h)

pub large_some : (word : ℕ) (text : List ℕ) (at over : ℕ)
    → integer_at (rule_of word Integer) text at (2 ^ 128 - 1) ≡ Err (Overflow over)
    → 0 < length (digits_from word text Integer at)
unfolding digits_from digits_end
large_some word text at over h =
    has_digits (rule_of word Integer) text at (2 ^ 128 - 1) over h

-- to be named in an attribute
pub ruleset large = (has_digits, large_some)
