-- What a supported word says of its rules.
use Rattle.std.proofs.Common.{◌≡◌, ℕ, subst, sym, arith, IsTrue}
use Rattle.lexical_digits.specs.Laws.Terms.{nat_tests, is_supported, Rule, Component, is_digit, IsSupported, rule_of}

pub supported_rule : (word : ℕ) (k : Component) → IsTrue (is_supported word)
    → IsSupported (rule_of word k)
unfolding is_digit
supported_rule word k h = grind (arith, nat_tests)

-- the same of a rule that was decoded before
pub supported_by : (r : Rule) (word : ℕ) (k : Component) → r ≡ rule_of word k
    → IsTrue (is_supported word) → IsSupported r
supported_by r word k e h = subst IsSupported (sym e) (supported_rule word k h)
